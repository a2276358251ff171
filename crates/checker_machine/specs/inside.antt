pub mod Fields
pub mod Wanting
