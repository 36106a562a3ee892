pub mod Commits
pub mod Counts
pub mod Elements
pub mod Probes
pub mod Sweeps
pub mod Ways
