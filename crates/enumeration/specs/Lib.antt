-- Document 02, [6]: the histories of a length, in order, and as bench inputs.
pub mod Order
pub mod Histories
pub mod Texts
