-- The root of the laws of algebra::lists.
pub mod Reading
pub mod Making
pub mod Trying
