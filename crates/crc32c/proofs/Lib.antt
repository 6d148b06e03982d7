pub mod Linear
mod Products
mod BitLemmas
mod Bursts
mod OddChanges
mod DivisionLaws
mod Pairs
