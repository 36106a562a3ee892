pub mod Sheet
pub mod Spot
pub mod A1
pub mod R1C1
pub mod Reading
