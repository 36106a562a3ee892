pub mod Sums
pub mod Back
pub mod Trials
pub mod Least
pub mod FlagsSet
pub mod Bares
pub mod Tells
