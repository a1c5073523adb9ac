pub mod Finish
pub mod Replies
pub mod Open
pub mod Numbered
pub mod Judging
pub mod Findings
