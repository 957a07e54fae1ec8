pub mod SameEnds
pub mod Places
pub mod Made
pub mod Claim
pub mod Deciding
