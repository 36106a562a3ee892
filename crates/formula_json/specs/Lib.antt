pub mod Tags
pub mod Kinds
pub mod Leaves
pub mod Formula
