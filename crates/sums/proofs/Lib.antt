-- The root of the laws of the codes of entries.
pub mod entry
