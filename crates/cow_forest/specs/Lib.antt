pub mod Store
pub mod Tables
pub mod Owning
pub mod Counting
pub mod Ranges
pub mod inside
