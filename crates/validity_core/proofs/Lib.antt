pub mod Passes
pub mod Even
