pub mod Addresses
pub mod Cells
pub mod Clean
pub mod Numerals
pub mod QuotedNames
