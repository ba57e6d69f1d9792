-- The root of the definitions of calculus.
pub mod Derivative
pub mod Integral
pub mod Rules
pub mod Contract
