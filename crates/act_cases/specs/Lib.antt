pub mod Looks
pub mod Puts
pub mod Plans
pub mod Tables
pub mod Cases
pub mod Moves
pub mod BackCases
