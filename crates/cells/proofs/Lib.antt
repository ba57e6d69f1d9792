-- The root of the laws of cells.
pub mod Bits
pub mod Laws
pub mod Writes
