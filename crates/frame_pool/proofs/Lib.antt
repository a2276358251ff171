pub mod PoolLaws
pub mod ShownLaws
