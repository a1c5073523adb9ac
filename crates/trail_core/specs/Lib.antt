pub mod Trails
pub mod TrueAndFalse
pub mod Steps
