pub mod Apart
pub mod Lists
pub mod Cuts
pub mod Spelled
pub mod Numerals
pub mod LineTexts
pub mod PathTexts
pub mod MarkTexts
