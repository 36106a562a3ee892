pub mod Marks
pub mod Made
