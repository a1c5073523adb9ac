pub mod Counted
pub mod Heads
pub mod Paged
pub mod Unpacked
