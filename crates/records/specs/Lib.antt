pub mod Numbers
pub mod Alike
pub mod Demands
