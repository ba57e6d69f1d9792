-- What contracts between own functions, or laws, cite, and no promise to a user.
pub mod Arena
pub mod Blocks
pub mod Stacked
pub mod Agree
pub mod Parts
pub mod Turning
pub mod Acting
