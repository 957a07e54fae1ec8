pub mod Zeroed
pub mod PrintedTokens
pub mod TokenTexts
pub mod Runs
pub mod Laws
