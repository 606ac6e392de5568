-- Theorems about the histories of a length. Theorems and Worked hold the results, the others lead to them.
pub mod SortedLaws
pub mod Members
pub mod Ordered
pub mod LineTexts
pub mod Inputs
pub mod Sizes
pub mod Theorems
pub mod Worked
