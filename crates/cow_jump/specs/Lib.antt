pub mod Jumps
pub mod inside
