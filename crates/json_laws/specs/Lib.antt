pub mod InRange
pub mod ReadsBack
