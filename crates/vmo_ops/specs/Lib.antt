pub mod Ranges
pub mod Targets
pub mod Costs
pub mod inside
