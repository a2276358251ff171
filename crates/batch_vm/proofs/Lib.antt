pub mod TableLaws
pub mod BatchLaws
pub mod PlaceLaws
pub mod LineLaws
