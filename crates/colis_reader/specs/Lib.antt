pub mod Nesting
pub mod Readings
pub mod Representable
pub mod ReadsProgram
