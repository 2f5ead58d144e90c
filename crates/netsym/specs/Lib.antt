-- The definitions of the top call.
pub mod Refusals
pub mod Runs
pub mod Exact
