pub mod Words
pub mod Operands
pub mod Meaning
pub mod Lines
pub mod Assembling
pub mod Tables
pub mod Printing
pub mod Laws
