pub mod Widths
pub mod Stack
pub mod Ends
