pub mod Spaces
pub mod Holders
pub mod inside
