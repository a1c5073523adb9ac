pub mod Supports
pub mod Marked
pub mod Held
pub mod Walked
pub mod Holding
pub mod Filled
pub mod Flattened
