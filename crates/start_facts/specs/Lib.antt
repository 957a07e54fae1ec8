pub mod PlaceFacts
pub mod Standings
pub mod ClauseFacts
pub mod SeenIn
pub mod Asked
