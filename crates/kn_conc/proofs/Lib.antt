-- The lemmas on runs over words.
pub mod InOrder
pub mod Elements
pub mod Baring
pub mod Sends
pub mod Turning
pub mod Choosing
pub mod Placing
