-- The lemmas on checking.
pub mod Refuting
pub mod Falsified
pub mod Hints
pub mod Spelled
pub mod Lines
