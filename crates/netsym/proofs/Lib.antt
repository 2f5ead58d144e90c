-- The lemmas on the top call.
pub mod Lefts
pub mod Lines
pub mod Ends
pub mod Exactly
