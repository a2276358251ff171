pub mod AttributionLaws
pub mod ChargeLaws
pub mod LesserLaws
pub mod CountLaws
pub mod RunLaws
