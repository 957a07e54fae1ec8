mod PlaceEquality
mod Counted
mod Growing
pub mod Briefs
pub mod ShownBytes
pub mod PieceReading
pub mod Blocks
pub mod WholeLines
pub mod LowTexts
pub mod LowPieces
pub mod TreeTexts
mod TypeFacts
pub mod TextApart
mod PathReplays
mod PathsTold
pub mod Joined
