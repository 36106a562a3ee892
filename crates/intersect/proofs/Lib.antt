pub mod Counts
pub mod Exports
pub mod Lefts
