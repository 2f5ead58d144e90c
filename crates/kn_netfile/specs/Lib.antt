pub mod Faults
pub mod Keys
pub mod Tables
pub mod Reading
pub mod Printing
pub mod Laws
