pub mod WellFormed
pub mod ProgramText
pub mod Members
