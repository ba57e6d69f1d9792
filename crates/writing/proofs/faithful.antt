-- The root of the laws of writing::faithful.
pub mod Apart
pub mod Size
pub mod Whole
