pub mod Draws
pub mod Written
