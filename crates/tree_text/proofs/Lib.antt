pub mod PlaceLaws
pub mod WalkLaws
pub mod RowLaws
pub mod LineLaws
pub mod PushLaws
pub mod OnceLaws
