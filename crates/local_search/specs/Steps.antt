pub mod Kept
pub mod Flat
pub mod Listed
pub mod Spots
pub mod Counted
pub mod Scored
pub mod States
pub mod Descents
