pub mod PlaceLaws
pub mod BelowLaws
pub mod TreeLaws
pub mod NotedLaws
