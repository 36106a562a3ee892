pub mod Check
pub mod Count
pub mod Argument
