-- Laws of groups, quiet and collectors, statements for callers first.
pub mod Partition
pub mod Collectors
pub mod Cases
pub mod ClosureLaws
pub mod LoopLaws
pub mod LinkLaws
pub mod WalkLaws
pub mod AnswerLaws
pub mod Whole
pub mod HeadLaws
