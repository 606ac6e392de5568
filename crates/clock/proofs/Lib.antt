-- What the clock's functions show of their answers.
pub mod AdvanceLaws
