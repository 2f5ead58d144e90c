pub mod Digits
pub mod Units
pub mod Folding
pub mod Simpler
pub mod Additions
