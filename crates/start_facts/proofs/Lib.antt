pub mod Sound
pub mod Entered
pub mod Kept
