pub mod Links
pub mod Reaching
pub mod Meeting
pub mod Resolving
pub mod Following
pub mod Staying
pub mod Performing
