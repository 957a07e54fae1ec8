pub mod NeedByNeed
pub mod Walks
