pub mod Lists
pub mod Assignments
pub mod Truth
pub mod Models
pub mod Backbones
pub mod Flips
pub mod Numerals
mod Gathering
pub mod Shown
