-- What contracts between own functions, or laws, cite, and no promise to a user.
pub mod Counting
