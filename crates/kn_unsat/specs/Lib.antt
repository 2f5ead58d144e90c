-- The definitions of what is assigned while a line is checked, and of the text of logs.
pub mod Assigned
pub mod Text
pub mod Reading
pub mod Words
