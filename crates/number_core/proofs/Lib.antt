pub mod Powers
pub mod Fraction
pub mod Fits
pub mod Back
