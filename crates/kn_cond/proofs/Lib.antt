-- The lemmas on conditions.
pub mod Kept
pub mod Reading
