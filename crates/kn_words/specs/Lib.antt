-- The definitions of command lines.
pub mod Options
pub mod Lines
pub mod Laws
pub mod Reading
pub mod Commands
