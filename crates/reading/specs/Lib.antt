-- The root of the definitions of reading.
pub mod Contract
pub mod Cost
