pub mod Draws
pub mod Planted
pub mod Steps
