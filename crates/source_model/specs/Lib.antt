pub mod Sources
pub mod Links
pub mod State
pub mod Living
pub mod Good
pub mod Commands
pub mod Reaching
pub mod Words
