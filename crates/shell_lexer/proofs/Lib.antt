pub mod Ahead
pub mod Begun
mod Causes
pub mod Cells
pub mod CutOnce
pub mod FaultPlaces
mod Fronts
mod Numbers
mod Pieces
pub mod PrintedBytes
mod Quotes
pub mod Rests
mod Skips
mod SoFar
pub mod SpelledBytes
pub mod SpelledCases
pub mod SpelledEnds
pub mod SpelledFaults
pub mod SpelledFronts
pub mod SpelledKinds
pub mod SpelledLine
pub mod SpelledOperators
pub mod SpelledParts
pub mod SpelledRedirects
pub mod SpelledRuns
pub mod SpelledWrong
mod Steps
pub mod Tiles
mod Unique
pub mod Unlimited
