pub mod Parts
pub mod Sizes
pub mod Stacks
pub mod Kept
pub mod Progression
