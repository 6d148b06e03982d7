pub mod LogLemmas
mod Again
mod Appending
mod Filling
mod RunLemmas
mod Settled
mod Settling
