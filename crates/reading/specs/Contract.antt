-- What contracts between own functions, or laws, cite, and no promise to a user.
pub mod Runs
pub mod Data
pub mod Quick
pub mod After
