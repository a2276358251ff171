pub mod Machine
pub mod inside
