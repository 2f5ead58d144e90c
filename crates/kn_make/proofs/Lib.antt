pub mod Valid
pub mod Nodes
pub mod Assembles
pub mod Short
pub mod Below
pub mod Whole
