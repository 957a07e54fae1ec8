pub mod Places
pub mod Halts
pub mod Runs
pub mod Operands
pub mod Ends
