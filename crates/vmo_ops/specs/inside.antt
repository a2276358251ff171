pub mod Copies
pub mod Pinning
