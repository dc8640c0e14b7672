-- Numbers and lines as they are written and read; then the loops and what their writers promise.
pub mod Induction
pub mod Parts
pub mod DecimalLaws
pub mod NumberLaws
pub mod Answered
pub mod Reading
pub mod LineLaws
pub mod KeyedLaws
pub mod NumberLineLaws
pub mod PutLaws
pub mod Writing
pub mod WriterLaws
