pub mod Pool
pub mod inside
