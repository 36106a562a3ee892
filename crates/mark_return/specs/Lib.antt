pub mod Put
pub mod Return
