pub mod Names
pub mod Scenarios
pub mod Scripts
pub mod Steps
pub mod Lines
pub mod Laws
pub mod Verdicts
