pub mod Number
pub mod NumberText
pub mod Whole
