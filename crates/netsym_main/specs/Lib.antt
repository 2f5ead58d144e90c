-- The definitions of the program.
pub mod Calls
