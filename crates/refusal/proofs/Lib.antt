-- Laws of the reasons and their numbers, and of what calls leave.
pub mod RefusalLaws
pub mod OutcomeLaws
