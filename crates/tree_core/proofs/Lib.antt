pub mod Parts
pub mod Places
pub mod Preorders
pub mod Readback
pub mod Trees
pub mod Views
pub mod Counts
pub mod Told
