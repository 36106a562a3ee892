pub mod Cuts
pub mod Fills
pub mod Rectangles
