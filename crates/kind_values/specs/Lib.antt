pub mod Choice
pub mod Counting
pub mod KindValue
pub mod NumberRule
pub mod Reckoning
pub mod Row
pub mod Size
