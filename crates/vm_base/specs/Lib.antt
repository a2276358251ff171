pub mod Pages
pub mod Search
pub mod Entries
