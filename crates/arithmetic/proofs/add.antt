-- The root of the laws of arithmetic::add.
pub mod Lying
pub mod Folding
pub mod Reading
pub mod Negating
pub mod Places
