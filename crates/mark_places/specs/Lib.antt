pub mod Candidates
pub mod Left
pub mod Suffice
