pub mod Accesses
pub mod Notes
pub mod inside
