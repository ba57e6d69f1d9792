-- The laws of walks in the arena.
pub mod Flat
pub mod Laws
