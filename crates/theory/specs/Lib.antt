-- What a reader must believe: document 01, as definitions, in the order of reading.
pub mod Lists
pub mod Answer
pub mod Corner
pub mod Mesh
pub mod Letter
pub mod Walk
pub mod Word
pub mod Judge
pub mod Tables
pub mod Renumber
pub mod Calls
