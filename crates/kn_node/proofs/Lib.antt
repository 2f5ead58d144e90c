-- The lemmas on node states.
pub mod Standing
pub mod Equal
pub mod Quiet
