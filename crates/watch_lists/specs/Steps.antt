pub mod Compacting
pub mod Packed
pub mod Lists
pub mod Visiting
