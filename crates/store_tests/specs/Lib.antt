pub mod TwoActs
pub mod Questions
pub mod Keeping
