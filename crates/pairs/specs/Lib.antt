-- The test of what the lent tables hold for one pair.
pub mod Pair
pub mod inner
