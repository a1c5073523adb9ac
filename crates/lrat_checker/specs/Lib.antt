pub mod Refusals
pub mod Checking
pub mod Steps
