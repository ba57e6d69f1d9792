-- The laws of records.
pub mod Names
pub mod Table
pub mod Bytes
pub mod Forest
pub mod Shapes
pub mod Fit
pub mod Stands
pub mod Nest
pub mod Codes
pub mod Theorem
pub mod Walk
pub mod Examples
