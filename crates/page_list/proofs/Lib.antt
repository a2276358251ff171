pub mod SlotLaws
pub mod FilterLaws
pub mod FillLaws
