-- What the checks of the lent tables answer.
pub mod Check
pub mod Fresh
