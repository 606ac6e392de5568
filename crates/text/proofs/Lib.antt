-- Laws of text.
pub mod TextLaws
pub mod PourLaws
pub mod FrontLaws
