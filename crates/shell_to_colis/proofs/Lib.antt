mod Each
pub mod Statics
mod Steps
pub mod Passes
mod InPlace
mod WellFormed
pub mod Nodes
mod Same
pub mod SameScript
pub mod Made
mod DefNames
