pub mod Counts
pub mod BegunRuns
