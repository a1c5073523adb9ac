pub mod Entries
pub mod Fresh
pub mod Kept
pub mod Packed
pub mod Steps
pub mod Laws
pub mod Examples
