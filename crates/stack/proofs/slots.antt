-- What the proofs of several functions share.
pub mod Laws
pub mod Counting
pub mod Moving
