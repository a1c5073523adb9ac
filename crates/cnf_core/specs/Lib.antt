pub mod Literals
pub mod Spelling
pub mod Formulas
pub mod Numbers
pub mod Laws
pub mod Epochs
pub mod Example
pub mod Steps
