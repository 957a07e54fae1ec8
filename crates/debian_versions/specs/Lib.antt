pub mod Parts
pub mod Versions
pub mod Comparisons
pub mod Laws
