pub mod Setting
pub mod Meaning
pub mod Answer
