pub mod Renaming
pub mod Moving
pub mod Transcript
pub mod Standing
pub mod Following
