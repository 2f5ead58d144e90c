-- The definitions of a machine over lists of terms.
pub mod Views
pub mod Ways
pub mod Effects
pub mod Paths
