pub mod Rights
pub mod Regions
pub mod Table
pub mod AddressSpaces
pub mod Places
pub mod Mappings
pub mod Readiness
