pub mod Literals
pub mod Lookups
pub mod Pushed
pub mod Popped
pub mod Backtracked
