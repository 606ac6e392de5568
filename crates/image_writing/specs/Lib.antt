-- Both tables' words as an image's bits.
pub mod inner
