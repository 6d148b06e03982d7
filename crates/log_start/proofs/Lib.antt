mod Blocks
mod Listed
mod Reading
mod Refusals
mod Restarts
mod Settles
mod Summed
