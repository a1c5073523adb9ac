pub mod Words
pub mod Rooms
pub mod Machine
pub mod Reads
