pub mod Lists
pub mod Order
pub mod Ordered
pub mod Places
pub mod Ring
pub mod Held
pub mod Changes
