pub mod Founds
pub mod Literals
