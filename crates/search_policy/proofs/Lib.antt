pub mod Ends
pub mod LubyTurns
pub mod Gathered
pub mod Choosing
