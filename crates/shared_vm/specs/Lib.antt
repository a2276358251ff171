pub mod Tasks
pub mod Journal
pub mod Texts
pub mod Rooms
pub mod Gathering
pub mod Outcome
pub mod inside
