pub mod Finding
pub mod Single
pub mod Intersection
pub mod Span
