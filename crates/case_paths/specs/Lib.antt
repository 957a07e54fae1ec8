pub mod Traces
pub mod Paths
pub mod Steps
pub mod Stages
pub mod Items
