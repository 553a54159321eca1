-- The figures of Needs.antt are the most over all free runs, and the high marks of a run the most over its own states.
pub mod Outlook
pub mod StretchLaws
pub mod NodeStretches
pub mod MarkStretches
pub mod CallStretches
pub mod TestStretches
pub mod StepKinds
pub mod FreeStates
pub mod Without
pub mod FreeSteps
pub mod FreeMost
pub mod RunNeeds
pub mod RoomBounds
pub mod HighMarks
