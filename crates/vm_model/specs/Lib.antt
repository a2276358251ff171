pub mod Contents
pub mod Naming
pub mod Space
pub mod Machine
pub mod Language
pub mod Scripts
