pub mod Folded
pub mod Laws
pub mod Simpler
pub mod Sums
