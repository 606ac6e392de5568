-- The clock where it is kept.
pub mod Advance
