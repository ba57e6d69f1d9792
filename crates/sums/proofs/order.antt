-- The laws of sums that lie in a book, of their order and ==, their levels, and the powers of x among their entries.
pub mod Walk
pub mod Compare
pub mod Sameness
pub mod Nesting
pub mod Powers
