pub mod Address
pub mod Indirect
pub mod ArrayToText
pub mod TextSplit
