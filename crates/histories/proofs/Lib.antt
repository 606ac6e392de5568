-- What the list of short histories relies on. Answers holds the results, the others lead to them.
pub mod PutLaws
pub mod PathLaws
pub mod ExploreLaws
pub mod ListLaws
pub mod Answers
