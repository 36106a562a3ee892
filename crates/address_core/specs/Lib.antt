pub mod Address
pub mod Line
pub mod Quote
