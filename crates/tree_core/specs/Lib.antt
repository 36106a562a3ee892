pub mod Label
pub mod Tree
pub mod Place
pub mod Formula
pub mod View
pub mod Count
pub mod Preorder
pub mod Flags
