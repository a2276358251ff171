pub mod Reading
pub mod Pages
pub mod Table
pub mod Closing
pub mod Answering
