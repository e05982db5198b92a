pub mod Positions
pub mod Ahead
pub mod Walked
pub mod Measures
pub mod Refused
pub mod Owners
