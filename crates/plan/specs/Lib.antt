pub mod Told
pub mod Determined
pub mod Demands
pub mod Applied
