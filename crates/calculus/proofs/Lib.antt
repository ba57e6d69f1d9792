-- The root of the laws of calculus.
pub mod Bases
pub mod Good
pub mod Overflow
pub mod Rules
pub mod Examples
pub mod Into
pub mod Eaching
