pub mod Lifting
pub mod Witness
pub mod Uncovering
pub mod Sharing
pub mod HandingOver
