-- What the proofs of several functions share, and what a walk makes of a step.
pub mod Choices
pub mod Counting
