pub mod Pairs
pub mod PairRows
pub mod StretchRows
pub mod Maps
