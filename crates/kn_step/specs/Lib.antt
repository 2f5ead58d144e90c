-- The definitions of event runs over lists of terms.
pub mod Given
pub mod Sides
pub mod Turns
pub mod Choices
pub mod Answers
pub mod Laws
