pub mod Told
pub mod Determined
pub mod Slivers
pub mod Losses
pub mod Lent
