pub mod Tree
pub mod Standing
pub mod GapSearch
