-- The lemmas on trails and on the order of assignments.
pub mod Trails
pub mod Values
pub mod Numbers
pub mod Positions
pub mod Lines
pub mod Marks
pub mod Resting
pub mod Flips
pub mod Counts
pub mod Clauses
pub mod Inputs
pub mod Closes
pub mod Complete
pub mod Refuted
