pub mod Words
pub mod Blocks
pub mod Bits
pub mod Grown
pub mod Values
pub mod Flipped
