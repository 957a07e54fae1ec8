pub mod Readings
pub mod Sinks
mod Rests
mod MemShelves
