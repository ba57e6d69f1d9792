-- The root of the laws of powers::raise.
pub mod Down
pub mod Roots
pub mod Rooting
pub mod Singles
pub mod Flat
pub mod Turns
pub mod Pairs
pub mod Whole
pub mod Reals
pub mod Constants
