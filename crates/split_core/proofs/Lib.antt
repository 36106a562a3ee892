pub mod Boundaries
pub mod Cutting
pub mod Firsts
pub mod Joined
pub mod Lowered
