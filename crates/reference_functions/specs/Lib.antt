pub mod Numbering
pub mod Sizing
pub mod Offsetting
pub mod Formula
pub mod Indexing
pub mod Choosing
