pub mod MapLaws
pub mod ExtentLaws
pub mod PartLaws
