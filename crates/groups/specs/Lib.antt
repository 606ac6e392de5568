-- Quiet, groups and collectors of lent tables: what the calls answer for any tables.
pub mod Groups
pub mod Quiet
pub mod Heads
pub mod Group
pub mod inner
