pub mod Faults
pub mod Memory
pub mod Ending
pub mod Reader
pub mod Fetching
pub mod Slices
