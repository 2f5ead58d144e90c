pub mod Programs
pub mod Making
pub mod Texts
pub mod Laws
