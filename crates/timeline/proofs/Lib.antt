mod Placing
mod Chunks
mod Cells
mod Runs
mod Puts
pub mod Ordering
mod Steps
mod Parting
mod Changing
pub mod Laid
pub mod Lists
pub mod Each
pub mod Sorting
pub mod Order
