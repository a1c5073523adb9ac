pub mod Packed
pub mod Blocks
