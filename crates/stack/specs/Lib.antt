-- The root of the definitions of stack.
pub mod Stack
pub mod State
pub mod Steps
pub mod Contract
