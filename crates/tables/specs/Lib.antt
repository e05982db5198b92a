pub mod Told
pub mod Determined
pub mod Cursors
pub mod Refused
pub mod Lent
