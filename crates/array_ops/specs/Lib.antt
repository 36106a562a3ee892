pub mod Reshaped
pub mod Sequence
