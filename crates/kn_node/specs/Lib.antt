-- The definitions of node states.
pub mod Views
pub mod Due
pub mod Opening
pub mod Equality
