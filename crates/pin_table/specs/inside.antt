pub mod Pages
pub mod TableFields
