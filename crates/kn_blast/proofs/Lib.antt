-- The lemmas on circuits of terms.
pub mod Growing
pub mod Numbers
pub mod Digits
pub mod Steps
pub mod Moving
pub mod Arithmetic
pub mod Dividing
pub mod Reading
pub mod Laying
pub mod Tabling
pub mod Opened
pub mod Kept
