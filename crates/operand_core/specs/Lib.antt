pub mod Cast
pub mod Each
pub mod Side
