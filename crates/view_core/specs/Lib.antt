pub mod Compiled
pub mod Viewed
