pub mod Files
mod Texts
mod Plans
mod Requests
pub mod OneScript
pub mod OneAnswer
