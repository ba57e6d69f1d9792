-- The laws of the test whether a good sum lies in a book.
pub mod Cells
pub mod Rising
