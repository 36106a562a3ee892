pub mod Looks
pub mod Constants
pub mod Compilings
pub mod Ranges
pub mod Filled
