-- The root of the definitions of sums.
pub mod Tree
pub mod Entry
pub mod Contract
