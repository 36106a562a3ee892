pub mod Sheet
pub mod Formula
pub mod Request
pub mod Line
