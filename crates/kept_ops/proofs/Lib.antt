pub mod Again
pub mod Listed
pub mod Turned
