pub mod Blocks
pub mod Taking
