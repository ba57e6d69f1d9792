-- The laws of one record's turn.
pub mod Leaf
