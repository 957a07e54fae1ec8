-- Lists in recursive types.
pub mod List
