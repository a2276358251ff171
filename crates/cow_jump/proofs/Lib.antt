pub mod Words
pub mod JumpLaws
pub mod JumpRowLaws
