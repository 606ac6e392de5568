-- The image of a network: its records' widths and places, and the bytes.
pub mod Widths
pub mod Image
pub mod Places
pub mod inner
