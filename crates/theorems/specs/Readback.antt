-- The root of the definitions of theorems::readback.
pub mod Terms
pub mod ReadBack
pub mod Passed
