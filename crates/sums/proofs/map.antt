-- The laws of a term put into a sum that lies in a book.
pub mod Putting
