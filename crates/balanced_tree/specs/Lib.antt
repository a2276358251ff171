pub mod Row
pub mod Rows
pub mod Pairs
pub mod Extents
pub mod Gaps
pub mod inside
