pub mod ByName
pub mod Nodes
pub mod Seen
