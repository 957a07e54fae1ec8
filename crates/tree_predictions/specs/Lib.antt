pub mod NameSets
pub mod NamedTrees
pub mod Blocks
pub mod Chunks
pub mod Picks
pub mod Looks
pub mod Plans
