pub mod SettledLaws
