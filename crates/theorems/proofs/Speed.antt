-- The modules here.
pub mod Building
pub mod Examples
pub mod Finite
pub mod Listed
pub mod Peaks
pub mod Pieces
pub mod Rising
pub mod RootExamples
pub mod Steps
pub mod Stops
pub mod Terms
pub mod Theorem
pub mod ValueExamples
pub mod Whole
