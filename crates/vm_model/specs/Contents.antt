pub mod Content
pub mod Owning
pub mod Sharing
pub mod Writing
pub mod Zeroing
