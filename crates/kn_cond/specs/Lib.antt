-- The definitions of conditions.
pub mod Literals
pub mod Conditions
pub mod Meanings
