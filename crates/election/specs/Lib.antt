-- The three events on lent tables: StepOn says what they answer and leave, by the meaning alone, RunOn the same of lists of calls.
pub mod StepOn
pub mod RunOn
pub mod inner
