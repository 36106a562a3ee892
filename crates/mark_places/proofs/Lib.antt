pub mod Counted
pub mod Covers
pub mod Lefts
pub mod Listed
