pub mod Ascii
mod MarkTexts
pub mod Floats
pub mod NewlineRead
pub mod ValueDepth
pub mod ValueRead
pub mod Versions
pub mod Told
