pub mod Obeying
pub mod Lawful
pub mod Playing
pub mod DecidedRules
pub mod WholeDecisions
