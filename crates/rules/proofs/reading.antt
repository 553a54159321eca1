-- The reader reads exactly the images of trees.
pub mod ReaderComplete
pub mod ReaderNodes
pub mod ReaderSound
pub mod ReaderExact
