pub mod Good
pub mod Place
