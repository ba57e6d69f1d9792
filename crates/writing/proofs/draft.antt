-- The root of the laws of writing::draft.
pub mod Laws
pub mod Lying
pub mod Growing
pub mod Fine
