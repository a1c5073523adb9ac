pub mod Told
pub mod Gives
pub mod Memory
pub mod Quiet
pub mod Real
