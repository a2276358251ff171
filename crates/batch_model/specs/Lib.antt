pub mod Pieces
pub mod Batch
pub mod BatchRuns
pub mod BatchWords
pub mod BatchLanguage
