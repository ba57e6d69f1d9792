-- The root of the definitions of arithmetic::multiply.
pub mod Contract
