pub mod Selection
pub mod Offset
pub mod Extent
