pub mod Plain
pub mod Shown
pub mod Rows
pub mod Asked
pub mod Built
