-- The root of the laws of running.
pub mod Stack
pub mod Laws
pub mod Walks
pub mod Steps
pub mod Examples
pub mod Refusals
