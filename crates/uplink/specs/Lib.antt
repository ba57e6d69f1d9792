-- The root of the definitions of uplink.
pub mod Told
