-- Laws of commands.
pub mod Seeking
pub mod NumberLaws
pub mod CommandLaws
pub mod Said
pub mod LineLaws
