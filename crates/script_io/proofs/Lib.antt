pub mod Moving
pub mod Ranges
pub mod Windows
pub mod FetchingLaws
pub mod Turns
pub mod Lending
