pub mod PerformedOnce
pub mod Outcomes
pub mod OutcomeOf
pub mod Endings
pub mod Laws
