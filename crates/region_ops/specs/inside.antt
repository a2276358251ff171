pub mod Mapping
pub mod Leaving
pub mod Covers
