-- The root of the definitions of writing.
pub mod Draft
pub mod ToNodes
pub mod Faithful
pub mod Meaning
pub mod Count
pub mod Alike
pub mod Contract
