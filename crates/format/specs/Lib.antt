pub mod Commands
pub mod Faults
pub mod Reading
pub mod Entries
pub mod Words
