-- The definitions of copying on branch over node states as they are kept.
pub mod Nodes
pub mod Copies
pub mod Closing
pub mod Ticks
pub mod Runs
pub mod Among
pub mod Orders
pub mod Reports
