pub mod WitnessText
pub mod Reading
pub mod Texts
pub mod Told
pub mod Models
pub mod Laws
pub mod Steps
