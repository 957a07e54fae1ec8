pub mod Known
pub mod Definitions
pub mod Static
pub mod Added
pub mod Finds
pub mod Says
pub mod Firsts
