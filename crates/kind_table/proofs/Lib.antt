pub mod OwnRows
pub mod Complete
pub mod Ascending
pub mod Found
pub mod Sorts
