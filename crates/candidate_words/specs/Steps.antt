pub mod Tables
pub mod Plays
