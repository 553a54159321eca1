-- The ranges of claims/Ranges.antt: values are carried within their ends, a passed image's carrying always has a rule, and every run stays within.
pub mod IntegerEnds
pub mod Arithmetic
pub mod Comparisons
pub mod Operators
pub mod Within
pub mod NamesWithin
pub mod ExpressionRuns
pub mod CommandRuns
pub mod CarriedTyping
pub mod FittingExpressions
pub mod Fitting
pub mod RootRuns
pub mod EndsGiven
pub mod RangesHold
