-- Laws of the tests of a height and of two sets.
pub mod HoldsLaws
