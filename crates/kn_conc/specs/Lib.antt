-- What runs over words are, in the definitions' words.
pub mod Views
pub mod Ways
pub mod Runs
