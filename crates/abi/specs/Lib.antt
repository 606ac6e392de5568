-- What the structs of the C interface say, and how much to lend.
pub mod Report
pub mod Sizes
