pub mod Taking
pub mod Marking
pub mod Ordered
pub mod Numbered
