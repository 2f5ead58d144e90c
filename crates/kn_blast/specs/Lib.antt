-- The definitions of circuits of terms.
pub mod Spelling
pub mod Shifting
pub mod Inputs
pub mod Reached
pub mod Tables
