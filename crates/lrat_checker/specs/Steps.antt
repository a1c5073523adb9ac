pub mod Assigned
pub mod Units
pub mod Assumed
pub mod Taking
