pub mod WidthLaws
pub mod Folds
pub mod Standing
pub mod Forward
pub mod Folding
pub mod Passes
pub mod Checks
