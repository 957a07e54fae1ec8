pub mod Answering
pub mod Steps
pub mod Structs
pub mod Weight
pub mod Lists
pub mod Rounds
pub mod NamedCommands
