pub mod Engine
pub mod Promise
pub mod Machine
pub mod Holding
pub mod Entry
pub mod Story
