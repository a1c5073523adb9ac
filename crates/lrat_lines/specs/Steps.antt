pub mod Gaps
pub mod Reading
