pub mod Checking
pub mod Seen
pub mod Hearing
pub mod Verdicts
pub mod Reports
