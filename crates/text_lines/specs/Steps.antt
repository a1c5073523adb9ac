pub mod Window
pub mod Onward
