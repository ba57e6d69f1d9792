-- The modules here.
pub mod Written
pub mod Steps
pub mod Powers
pub mod Pieces
pub mod Came
pub mod Terms
pub mod Lists
pub mod Again
pub mod Pairs
pub mod Theorem
pub mod Fine
pub mod Passed
pub mod Examples
