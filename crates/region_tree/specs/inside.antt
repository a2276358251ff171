pub mod TreeFields
