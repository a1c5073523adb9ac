pub mod Lines
mod Windows
mod Feeds
mod Onward
mod Handing
mod Draining
pub mod Stepping
