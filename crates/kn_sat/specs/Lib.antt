-- The definitions of trails, of propagation, and of the order of assignments.
pub mod Trails
pub mod Propagating
pub mod Occurrences
pub mod Resting
pub mod Order
pub mod Answers
