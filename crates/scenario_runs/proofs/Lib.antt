mod Lines
mod Walking
mod Taking
mod Undoing
mod Deciding
pub mod Turning
