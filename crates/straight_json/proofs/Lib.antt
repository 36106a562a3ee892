pub mod Steps
pub mod Fields
pub mod Leaves
pub mod Nodes
