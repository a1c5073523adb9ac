pub mod Taking
pub mod Dropping
pub mod Covering
pub mod Ending
pub mod Evidence
pub mod Parts
pub mod Verified
