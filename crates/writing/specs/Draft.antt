-- The root of the definitions of writing::draft.
pub mod Writing
pub mod Contract
