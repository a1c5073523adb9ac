pub mod LiteralSets
mod MappedLists
pub mod SameSets
pub mod Tightness
pub mod Entailment
pub mod Progressing
pub mod Prefixes
pub mod Renumbered
pub mod Accepted
mod GapLemmas
mod Fronts
mod TextLines
pub mod ReadsBack
