-- Laws of the lent tables.
pub mod Sizes
pub mod RowsLaws
pub mod RowsMore
pub mod WordRuns
pub mod Zeros
pub mod RecordsLaws
pub mod Wordy
pub mod RowLaws
pub mod CellLaws
pub mod TablesLaws
pub mod ChangeLaws
pub mod Back
