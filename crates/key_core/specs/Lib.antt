pub mod Equal
pub mod Key
pub mod Row
pub mod Kept
pub mod Counted
pub mod OneKey
