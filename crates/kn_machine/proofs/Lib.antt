-- The lemmas on machines over terms.
pub mod Growing
pub mod Changing
pub mod Ending
pub mod Likeness
pub mod Sends
pub mod Stepping
pub mod Elements
pub mod Sides
