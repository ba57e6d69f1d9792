-- The root of the definitions of reading::cost.
pub mod Cost
pub mod Counting
pub mod Theorem
