mod Lines
pub mod Verdicts
mod Digits
mod Endings
mod Spelled
pub mod SoFar
mod ReadBack
pub mod RoundTrip
