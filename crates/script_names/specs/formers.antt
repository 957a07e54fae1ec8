-- How the owners of this crate stand in recursive types, also of other crates.
pub mod boxed
pub mod list
