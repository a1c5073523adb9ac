pub mod Layout
pub mod Opened
pub mod Sinking
