pub mod Order
pub mod Lists
pub mod inside
