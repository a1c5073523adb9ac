pub mod Members
pub mod Reasons
pub mod Answers
pub mod Examples
pub mod Steps
