pub mod Vmos
pub mod Table
pub mod inside
