pub mod Run
pub mod Example
pub mod Workload
