pub mod Frames
pub mod Forking
pub mod Zeroing
pub mod Snapshots
pub mod Sharing
pub mod Sweeping
