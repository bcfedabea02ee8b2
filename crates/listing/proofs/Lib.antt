pub mod Lines
pub mod Wholes
