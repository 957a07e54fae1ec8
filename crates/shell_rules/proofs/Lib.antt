pub mod ClosedScopes
pub mod Keeping
pub mod LawfulRules
pub mod NothingStated
pub mod PatternMatches
pub mod PlannedActs
pub mod Trimming
pub mod WholeRuns
