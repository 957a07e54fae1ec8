mod Solved
mod Adding
pub mod Telling
