pub mod Rises
pub mod Stretches
pub mod Refused
pub mod Agrees
pub mod Told
