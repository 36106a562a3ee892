pub mod Seen
pub mod Traversal
pub mod Lists
pub mod Numbers
pub mod Places
pub mod ReadBack
