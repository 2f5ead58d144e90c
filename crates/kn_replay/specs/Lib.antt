-- The run of a network and its text, in the definitions' words.
pub mod Views
pub mod Nodes
pub mod Turns
pub mod Runs
pub mod Texts
pub mod Tellings
