-- What the proofs of several functions share.
pub mod Laws
pub mod Forming
pub mod Numbers
