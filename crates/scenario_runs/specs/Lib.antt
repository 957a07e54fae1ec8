pub mod Acts
pub mod Performed
pub mod Runs
pub mod Later
pub mod Naming
pub mod Playing
pub mod Deciding
pub mod Laws
