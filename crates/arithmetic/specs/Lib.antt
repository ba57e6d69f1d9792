-- The root of the definitions of arithmetic.
pub mod Outcomes
pub mod Singles
pub mod Adding
pub mod Product
pub mod Quotient
pub mod Power
pub mod Pairs
pub mod Powers
pub mod Add
pub mod Multiply
