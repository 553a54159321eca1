pub mod Bytes
pub mod BytesKept
pub mod BytesRead
pub mod Replies
pub mod NeedsReplies
pub mod PageReplies
pub mod RangesReplies
