mod Plans
mod Solved
pub mod OnePrediction
