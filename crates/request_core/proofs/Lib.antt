pub mod Blanks
pub mod Filling
