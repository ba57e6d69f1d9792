-- The root of the definitions of sums::entry.
pub mod Encoding
pub mod Taking
pub mod Contract
