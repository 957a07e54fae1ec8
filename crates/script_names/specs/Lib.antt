-- The definitions of this crate: what names, paths and the names of commands are, bytes by their names, and how its
-- lists and boxes stand in recursive types.
pub mod formers
pub mod Ascii
pub mod Names
pub mod ShellNames
pub mod CommandNames
pub mod CommandLaws
pub mod Paths
pub mod Laws
