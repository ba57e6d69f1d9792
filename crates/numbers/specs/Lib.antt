-- The root of the definitions of numbers.
pub mod Constants
pub mod Numbers
pub mod Ops
pub mod Order
pub mod Signs
pub mod Wholes
pub mod Radical
pub mod Complex
