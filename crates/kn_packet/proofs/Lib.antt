pub mod Equal
pub mod Ordered
pub mod Quiet
