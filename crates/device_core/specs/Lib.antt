pub mod Faults
pub mod Flow
pub mod Reads
pub mod Calls
pub mod Store
pub mod Memory
