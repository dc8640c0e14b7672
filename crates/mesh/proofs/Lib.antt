pub mod Touching
pub mod Searching
pub mod SearchTables
pub mod Scans
pub mod Judging
