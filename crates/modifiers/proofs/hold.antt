-- The laws of what is held.
pub mod Laws
pub mod Moves
