pub mod Cells
pub mod Rows
pub mod Boxes
pub mod Holds
pub mod Laws
