pub mod Units
pub mod Logs
pub mod SolverStates
pub mod Answers
pub mod Steps
