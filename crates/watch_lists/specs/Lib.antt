pub mod Clauses
pub mod Watchers
pub mod Lists
pub mod Moving
pub mod Watching
pub mod Propagating
pub mod Laws
pub mod Steps
