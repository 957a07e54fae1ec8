pub mod Ends
pub mod Groups
pub mod Told
pub mod Laws
