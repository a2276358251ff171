pub mod Changes
pub mod Fields
pub mod Steps
