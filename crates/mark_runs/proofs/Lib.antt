pub mod Tells
pub mod Turns
