pub mod Epochs
pub mod Luby
pub mod Removals
pub mod Steps
