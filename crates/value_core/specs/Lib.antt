pub mod ErrorName
pub mod Position
