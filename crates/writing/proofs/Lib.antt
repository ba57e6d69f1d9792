-- The root of the laws of writing.
pub mod Count
pub mod Good
pub mod Refusals
pub mod Writers
pub mod Meaning
pub mod Parts
pub mod Whole
pub mod Examples
pub mod Turning
