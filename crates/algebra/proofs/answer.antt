-- The root of the laws of algebra::answer.
pub mod Determined
pub mod Giving
pub mod Taking
pub mod Told
pub mod Writers
