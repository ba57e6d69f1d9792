-- What contracts between own functions, or laws, cite, and no promise to a user.
pub mod Roots
pub mod Turns
pub mod Reals
pub mod Pairs
