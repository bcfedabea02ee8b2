pub mod Expressions
pub mod Positions
pub mod Judging
pub mod Refusals
pub mod Patterns
pub mod Listed
pub mod Stands
pub mod Words
