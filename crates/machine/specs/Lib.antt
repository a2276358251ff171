pub mod Machine
pub mod Groups
pub mod Requests
pub mod inside
