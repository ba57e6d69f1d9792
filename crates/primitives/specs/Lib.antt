-- The root of the definitions of primitives.
pub mod Forms
pub mod Contract
