mod Counting
mod Exact
mod Played
mod StoreClauses
mod Answering
pub mod Carrying
pub mod OnePath
pub mod EndAlike
