-- The last record as a text, what reading and writing it answer, and what the two calls do with what they are lent.
pub mod Record
pub mod Lines
pub mod Calls
pub mod Head
