pub mod ChildRows
pub mod TableFields
