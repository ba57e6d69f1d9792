-- The root of the definitions of algebra::answer.
pub mod Promises
pub mod Making
