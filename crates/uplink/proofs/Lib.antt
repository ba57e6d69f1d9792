-- The root of the laws of uplink.
pub mod Telling
