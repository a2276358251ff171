pub mod Answering
pub mod Outcome
pub mod Words
pub mod Serving
pub mod Reading
