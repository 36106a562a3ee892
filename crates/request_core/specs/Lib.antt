pub mod Text
pub mod Cells
pub mod Question
pub mod Showing
pub mod Request
