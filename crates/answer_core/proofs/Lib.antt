pub mod Fits
pub mod Words
pub mod Spaces
pub mod Generated
pub mod Questions
pub mod Runs
