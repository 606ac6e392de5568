-- Laws that belong to no one function; crates above cite them too.
pub mod Compare
pub mod ComparisonLaws
pub mod FirstDifference
pub mod Keys
pub mod Moves
pub mod OrderLaws
pub mod Places
pub mod SaidOrder
pub mod Signed
pub mod WordsLaws
