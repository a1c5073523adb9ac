pub mod StoredEntries
pub mod Reading
pub mod PackedLogs
pub mod Unpacking
pub mod CountedLists
pub mod Pushed
pub mod Groups
pub mod Pages
pub mod Kept
mod Entailed
mod Digits
mod LearntClauses
mod QueryCounts
mod Full
pub mod Worked
