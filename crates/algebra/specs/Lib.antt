-- The root of the definitions of algebra.
pub mod Reading
pub mod Entries
pub mod Replies
pub mod Answer
pub mod Contract
