pub mod Fields
pub mod Laws
pub mod Named
pub mod Patterns
pub mod Pieces
pub mod Runs
pub mod Trimmed
pub mod Words
