pub mod Stamps
pub mod Rushes
