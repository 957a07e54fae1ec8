pub mod Script
pub mod Lines
pub mod Input
pub mod Laws
