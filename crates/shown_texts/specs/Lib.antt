pub mod Parts
pub mod Show
pub mod Numbers
pub mod Lines
pub mod Paths
pub mod Marks
pub mod Laws
