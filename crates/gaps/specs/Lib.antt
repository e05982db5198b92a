pub mod Outage
pub mod Applied
