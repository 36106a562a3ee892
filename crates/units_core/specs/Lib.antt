pub mod Replace
pub mod Part
pub mod Formats
pub mod Locale
pub mod Class
pub mod Product
pub mod Unit
pub mod Law
