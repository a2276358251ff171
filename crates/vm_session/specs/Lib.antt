pub mod Plain
pub mod Outcome
pub mod inside
