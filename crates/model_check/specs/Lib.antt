pub mod Flips
