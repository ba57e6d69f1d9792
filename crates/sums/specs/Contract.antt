-- What contracts between own functions, or laws, cite, and no promise to a user.
pub mod Lies
pub mod Nests
pub mod Place
pub mod Heads
pub mod Putting
pub mod Fine
pub mod Laid
pub mod Steps
