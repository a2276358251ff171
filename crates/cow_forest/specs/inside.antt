pub mod Founders
pub mod Fields
pub mod TableFields
pub mod Looking
pub mod Viewing
