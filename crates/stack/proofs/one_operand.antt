-- What the proofs of several functions share.
pub mod Table
pub mod Working
pub mod Turning
pub mod Leaving
