pub mod Pieces
pub mod Tables
pub mod Backed
pub mod inside
