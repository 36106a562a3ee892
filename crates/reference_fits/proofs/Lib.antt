pub mod Sizes
pub mod Numbers
pub mod Choices
pub mod Offsets
pub mod Law
