-- Laws of bits, bytes and fields, each built on those before it.
pub mod Numbers
pub mod Overlay
pub mod Bytes
pub mod Turns
pub mod SixtyFour
pub mod Fields
pub mod Seeing
pub mod Packing
