pub mod AnswerLaws
pub mod PinnedLaws
pub mod StartLaws
pub mod WantLaws
