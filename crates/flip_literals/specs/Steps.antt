pub mod Supports
pub mod Listed
pub mod Passes
pub mod Flat
pub mod Marking
pub mod Holding
