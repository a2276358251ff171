pub mod AgreeLaws
pub mod StartLaws
