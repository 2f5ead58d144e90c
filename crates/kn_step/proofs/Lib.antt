-- The lemmas on event runs.
pub mod Onward
pub mod OneMore
pub mod Turning
pub mod Giving
pub mod GoingOn
pub mod Choosing
pub mod Clearing
pub mod Opened
pub mod SoundNets
pub mod DueEvents
pub mod EventRuns
pub mod Behind
pub mod Received
pub mod OverLimit
