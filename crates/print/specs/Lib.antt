pub mod Told
pub mod Text
pub mod Demands
pub mod Printed
