pub mod Unit
pub mod Field
pub mod Format
pub mod Locale
