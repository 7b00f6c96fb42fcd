pub mod Steps
pub mod Back
pub mod Words
mod Asking
mod Laying
mod Several
mod Parts
mod May
mod Wholes
mod Each
mod Numbered
mod Chunks
mod Chains
mod Holds
