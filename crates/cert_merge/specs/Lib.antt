pub mod Merging
pub mod Trimming
pub mod MergedNeeds
pub mod Examples
pub mod Steps
