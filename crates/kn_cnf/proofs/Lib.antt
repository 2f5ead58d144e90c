-- The lemmas on clauses.
pub mod Equal
pub mod Literals
pub mod Sound
pub mod Marks
pub mod Encoded
pub mod Finished
pub mod Spreading
