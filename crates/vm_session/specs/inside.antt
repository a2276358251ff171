pub mod Tasks
pub mod Outside
pub mod Working
