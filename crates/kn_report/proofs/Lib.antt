-- The lemmas on reports and their text.
pub mod Ascii
pub mod Assembly
pub mod Blanks
pub mod Cut
pub mod Ending
pub mod Entries
pub mod Failing
pub mod Failures
pub mod Fields
pub mod Fitting
pub mod Gathering
pub mod Lines
pub mod Numbers
pub mod Printed
pub mod Stripped
pub mod Takes
