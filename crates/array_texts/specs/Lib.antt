pub mod ArrayText
