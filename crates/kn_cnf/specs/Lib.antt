-- The definitions of clauses, of their truth, and of unit propagation.
pub mod Formulas
pub mod Truth
pub mod Units
pub mod States
pub mod Good
pub mod Encoding
pub mod SoFar
