pub mod Reads
pub mod Rooms
