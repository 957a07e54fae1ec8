pub mod Kept
pub mod OutcomeReport
pub mod Replays
pub mod Laws
