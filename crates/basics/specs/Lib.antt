-- What the meaning is written with.
pub mod Functions
pub mod Bytes
