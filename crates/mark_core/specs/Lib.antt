pub mod Mark
pub mod Drop
pub mod Probe
pub mod Sweep
