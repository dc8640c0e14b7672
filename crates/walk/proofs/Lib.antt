pub mod TableLaws
pub mod Rows
pub mod Stepping
pub mod Made
pub mod Telling
pub mod Tracing
pub mod Written
pub mod Spelling
