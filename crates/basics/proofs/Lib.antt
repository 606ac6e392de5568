-- Laws of tests, of functions of node numbers, and of lists.
pub mod Tests
pub mod FunctionsLaws
pub mod AllOf
pub mod BytesLaws
pub mod EveryLaws
