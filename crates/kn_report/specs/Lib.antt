-- The definitions of reports: their parts, their form, their text, reading it, and the status of a call.
pub mod Forms
pub mod Heads
pub mod Reading
pub mod Sections
pub mod Statuses
pub mod Texts
pub mod Views
pub mod Words
