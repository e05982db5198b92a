pub mod Told
pub mod Legal
pub mod Determined
