pub mod Jobs
pub mod Batch
pub mod BatchFields
pub mod Places
pub mod BatchLines
pub mod BatchAnswering
