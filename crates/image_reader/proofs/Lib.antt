-- What the functions of this crate show of their answers.
pub mod FieldLaws
pub mod RecordLaws
