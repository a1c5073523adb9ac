pub mod Lines
pub mod Feeds
pub mod Progress
pub mod Readings
pub mod Steps
