pub mod Laid
pub mod Changed
pub mod Sinking
