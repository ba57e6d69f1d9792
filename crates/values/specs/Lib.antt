-- The root of the definitions of values.
pub mod Value
pub mod ValueOf
pub mod Contract
