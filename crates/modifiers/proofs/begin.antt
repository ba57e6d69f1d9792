-- The laws of how a modifier begins.
pub mod Manners
