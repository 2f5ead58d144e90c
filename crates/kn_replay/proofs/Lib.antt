-- Lemmas on runs.
mod Falling
mod Words
mod Posting
mod Turning
mod Ticking
mod SoundNets
mod Telling
mod Bits
