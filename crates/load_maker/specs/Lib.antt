pub mod LoadText
pub mod Loaded
pub mod Laws
