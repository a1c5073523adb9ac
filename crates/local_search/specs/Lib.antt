pub mod Cleaned
pub mod Tallies
pub mod Scored
pub mod Searches
pub mod Weights
pub mod Steps
