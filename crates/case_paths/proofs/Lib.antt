mod Listed
pub mod Orders
pub mod Walks
pub mod Parting
pub mod StepCases
pub mod Forking
pub mod ItemStates
pub mod Rounds
pub mod Single
pub mod Going
pub mod Whole
