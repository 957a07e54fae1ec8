pub mod Bases
pub mod Read
