pub mod Members
pub mod Translated
pub mod Shell
pub mod Laws
pub mod DefNames
pub mod Specials
