-- The root of the definitions of arithmetic::add.
pub mod Contract
