pub mod Subjects
pub mod Words
pub mod Boards
pub mod Rules
pub mod Laws
pub mod Example
pub mod Games
