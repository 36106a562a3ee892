pub mod Bared
pub mod Trial
pub mod Drops
