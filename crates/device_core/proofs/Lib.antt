pub mod Flows
pub mod Stored
