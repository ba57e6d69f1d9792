-- The root of the definitions of powers::raise.
pub mod Contract
