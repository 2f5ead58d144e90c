-- The definitions of formulas and verdicts.
pub mod Formulas
pub mod Wholes
pub mod Orders
pub mod Asking
pub mod Verdicts
pub mod Laws
pub mod Parts
