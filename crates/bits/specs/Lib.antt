-- Bits of bytes, and fields in them.
pub mod Bits
pub mod inner
