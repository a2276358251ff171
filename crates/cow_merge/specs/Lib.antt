pub mod Ranges
pub mod Merging
pub mod inside
