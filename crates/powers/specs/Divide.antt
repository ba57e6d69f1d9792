-- The root of the definitions of powers::divide.
pub mod Contract
