-- The root of the definitions of replay_arithmetic.
pub mod Contract
