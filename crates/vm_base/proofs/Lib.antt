pub mod SearchLaws
pub mod EntryLaws
pub mod PageLaws
