pub mod Critical
pub mod Listings
pub mod Walks
pub mod Steps
