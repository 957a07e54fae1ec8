pub mod Placed
pub mod Pictures
pub mod ShellLines
