-- The root of the definitions of numbers::radical.
pub mod Root
pub mod Contract
