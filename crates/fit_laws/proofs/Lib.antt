pub mod Fit
pub mod Sheet
pub mod Shown
pub mod Texts
pub mod Law
