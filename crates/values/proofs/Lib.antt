-- The modules here.
pub mod Laws
pub mod Walk
pub mod Taking
pub mod Flat
pub mod Passing
pub mod Examples
