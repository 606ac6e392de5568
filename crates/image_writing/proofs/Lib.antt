-- Laws of the writer: pieces laid end to end, their lengths, and that they are the image.
pub mod HeaderLaws
pub mod LengthLaws
pub mod PieceLaws
pub mod WordsLaws
pub mod FrontLaws
pub mod ImageLaws
