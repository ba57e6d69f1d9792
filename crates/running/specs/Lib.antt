-- The root of the definitions of running.
pub mod Primitives
pub mod Running
pub mod Contract
