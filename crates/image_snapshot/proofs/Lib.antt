-- Laws of saving and restoring.
pub mod ImageLaws
pub mod RestoreSaved
pub mod AcceptedLaws
pub mod SameImage
pub mod SavedNumbers
pub mod RestoreAny
pub mod RefusedLaws
pub mod NodePlaces
pub mod CountLaws
pub mod SaveLaws
pub mod LookLaws
pub mod LookSaved
pub mod SaveRestored
pub mod RestoreLaws
