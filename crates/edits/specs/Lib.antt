pub mod Told
pub mod Stored
pub mod Refused
pub mod Agrees
