pub mod Axis
pub mod Limit
pub mod Sized
pub mod Check
pub mod Position
pub mod Place
pub mod Sequence
