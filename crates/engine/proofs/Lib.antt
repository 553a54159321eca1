mod BytesCounts
mod BytesRun
mod CheckNumbers
mod NeedsNumbers
mod PageNumbers
mod RangesNumbers
mod RunNumbers
