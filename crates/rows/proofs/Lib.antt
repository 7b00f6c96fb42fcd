pub mod Order
pub mod Rows
mod Eaches
mod Passing
mod Flats
mod Counting
mod Inserted
mod Telling
mod Reach
mod Same
mod Enough
pub mod Known
pub mod Newly
mod Positions
mod Rising
mod Picks
mod Steps
mod Decoded
mod Scanned
mod Nevers
mod Fitting
mod Tried
mod Moves
mod Following
pub mod Chosen
mod Arrays
mod Numbers
mod Pruning
mod Searching
mod FirstRow
mod LevelOk
mod OtherWho
mod Unbroken
mod OneLast
mod ByLast
pub mod AllFound
mod Among
mod Along
mod AllFit
pub mod Resuming
mod Renumbered
mod Sorted
mod Exchanged
