pub mod Joined
pub mod Seen
pub mod Given
pub mod KnownNames
pub mod SeenParts
pub mod Settled
pub mod Sorts
