pub mod Nodes
pub mod Walk
pub mod Ways
pub mod Forest
pub mod Changes
pub mod Renamed
pub mod Counts
pub mod inside
