pub mod Answer
pub mod ValueLine
