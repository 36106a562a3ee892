pub mod Shown
pub mod Answers
pub mod Parts
pub mod Command
pub mod Refusal
pub mod Run
pub mod Status
pub mod Formula
