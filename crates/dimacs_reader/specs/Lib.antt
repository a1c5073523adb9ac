pub mod Pieces
pub mod Numbers
pub mod Reading
pub mod Examples
pub mod Scans
pub mod PlainText
pub mod Feeds
pub mod Steps
