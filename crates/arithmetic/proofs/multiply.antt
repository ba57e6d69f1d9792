-- The root of the laws of arithmetic::multiply.
pub mod Shapes
pub mod Singles
pub mod Laws
pub mod Rows
