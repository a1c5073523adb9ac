pub mod Numerals
pub mod Refusals
pub mod Named
pub mod Simple
