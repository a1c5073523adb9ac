pub mod Posts
pub mod Evidence
pub mod Turns
pub mod Runs
pub mod Steps
