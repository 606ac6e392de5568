-- The list of all short histories: what it answers and leaves.
pub mod ListOn
pub mod inner
