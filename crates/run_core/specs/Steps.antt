pub mod Crews
pub mod Gathers
pub mod Reports
