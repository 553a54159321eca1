mod LoadedLaws
mod CheckLaws
mod ExecuteLaws
mod NeedsLaws
mod OrderLaws
mod PageLaws
mod PerformLaws
mod RangesLaws
