pub mod Entries
pub mod EndAlike
pub mod Carrying
pub mod PartOf
