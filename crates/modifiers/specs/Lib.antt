-- The root of the definitions of modifiers.
pub mod Holding
pub mod Modifiers
pub mod Reading
pub mod Contract
