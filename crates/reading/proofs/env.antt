-- How a reading begins and ends.
pub mod Ends
