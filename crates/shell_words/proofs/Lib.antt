pub mod Cuts
pub mod KeptBytes
pub mod Matching
pub mod Named
pub mod PlainPatterns
pub mod QuotedWords
pub mod Reading
pub mod Trims
