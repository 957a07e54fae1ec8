pub mod Values
pub mod Fields
pub mod Looks
pub mod Requests
pub mod Words
pub mod CommandLines
pub mod Laws
