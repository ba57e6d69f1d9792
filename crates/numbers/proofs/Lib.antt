-- The root of the laws of numbers.
pub mod Bools
pub mod Values
pub mod Bits
pub mod Zeros
pub mod Units
pub mod Finite
pub mod Unity
pub mod Order
pub mod Wholes
pub mod Far
pub mod Small
