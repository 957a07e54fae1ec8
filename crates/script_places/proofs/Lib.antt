pub mod Added
pub mod CommandEnds
pub mod Fitting
pub mod Widths
