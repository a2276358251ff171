pub mod Pages
pub mod Held
pub mod inside
pub mod Flat
pub mod Requests
pub mod Refusing
pub mod Names
pub mod Needs
