pub mod Access
pub mod Changes
