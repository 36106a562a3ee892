pub mod Classes
pub mod Seen
pub mod Parts
pub mod Drops
pub mod State
