-- The root of the laws of stack.
pub mod Sizes
pub mod Laws
pub mod Forming
