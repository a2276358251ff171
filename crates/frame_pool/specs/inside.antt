pub mod PoolFields
