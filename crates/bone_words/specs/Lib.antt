pub mod Commands
pub mod Settings
pub mod Laws
pub mod Steps
