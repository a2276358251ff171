pub mod Places
pub mod TaskPlaces
pub mod Pending
pub mod Noting
pub mod Asking
