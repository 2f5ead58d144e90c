-- The definitions of circuits.
pub mod Circuits
