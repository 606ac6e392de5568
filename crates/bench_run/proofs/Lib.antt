-- Laws of the bench listing.
pub mod Listings
pub mod PieceLaws
pub mod StationLaws
pub mod LineRuns
pub mod LinesRun
pub mod PlotLaws
