pub mod Asking
pub mod Bytes
pub mod Complaints
pub mod Events
pub mod Failures
pub mod Lines
pub mod Shown
pub mod Text
