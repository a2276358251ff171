pub mod Walking
pub mod Pushing
