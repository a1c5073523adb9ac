pub mod Imports
pub mod Turns
