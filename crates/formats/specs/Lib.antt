-- The root of the definitions of formats.
pub mod Names
pub mod Table
pub mod Bytes
pub mod Tree
pub mod Rules
pub mod Contract
