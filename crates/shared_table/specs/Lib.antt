pub mod Children
pub mod Cost
pub mod Heights
pub mod Nodes
pub mod Roots
