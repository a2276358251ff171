pub mod PageLaws
pub mod CountedLaws
pub mod EntryLaws
