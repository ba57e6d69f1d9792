-- What contracts between own functions, or laws, cite, and no promise to a user.
pub mod Plans
pub mod Walks
pub mod Begins
pub mod Manners
pub mod Room
