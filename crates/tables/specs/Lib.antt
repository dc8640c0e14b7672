pub mod Fold
pub mod Built
pub mod Fill
