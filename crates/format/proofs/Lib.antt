pub mod Decoding
pub mod Spelling
pub mod MapSpelling
pub mod StandsAt
pub mod Exits
pub mod EntryKnown
pub mod FileCommands
