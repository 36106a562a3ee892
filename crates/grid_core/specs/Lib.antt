pub mod Broadcast
pub mod Combine
pub mod Order
