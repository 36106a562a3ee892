pub mod Elements
pub mod Turned
pub mod Stacked
pub mod Sides
