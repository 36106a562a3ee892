pub mod Texts
pub mod Shown
pub mod Rests
pub mod Rows
