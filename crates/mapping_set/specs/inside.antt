pub mod Taken
pub mod SetFields
