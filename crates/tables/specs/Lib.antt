-- The lent tables: rows and cells of words, and the network that they hold.
pub mod Rows
pub mod Tables
pub mod Row
pub mod Cell
pub mod Records
pub mod Load
pub mod inner
