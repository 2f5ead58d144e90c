-- The lemmas on circuits.
pub mod Values
pub mod Longer
pub mod Ands
pub mod Chains
pub mod Kept
