pub mod Radixes
pub mod Rows
pub mod Spaced
pub mod Subjects
pub mod Shapes
pub mod Places
pub mod Groups
