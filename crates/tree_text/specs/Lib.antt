pub mod Order
pub mod Text
pub mod inside
