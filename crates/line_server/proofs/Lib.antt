pub mod RunLaws
pub mod Served
pub mod Answered
pub mod Beginning
pub mod Heard
pub mod Writing
