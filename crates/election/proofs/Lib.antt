-- Laws of the events on tables.
pub mod SetChanges
pub mod SendLaws
pub mod CellChanges
pub mod WriteLaws
pub mod Committed
pub mod StepLaws
pub mod EventLaws
pub mod DecideLaws
pub mod FinishLaws
pub mod CheckedLaws
pub mod CallerLaws
pub mod PassingLaws
pub mod OwnView
pub mod RunLaws
