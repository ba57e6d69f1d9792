-- The root of the laws of arithmetic.
pub mod Table
pub mod Steps
pub mod Goodness
pub mod Agree
pub mod Pairs
pub mod Calculus
