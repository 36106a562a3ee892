pub mod Handed
pub mod Ran
pub mod Formed
