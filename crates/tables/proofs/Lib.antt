-- The first pass: chains, corners, what a letter does to the words that stand; then the second pass.
pub mod Chained
pub mod Corners
pub mod Held
pub mod Folds
pub mod Pushes
pub mod Splices
pub mod Enough
pub mod Stopping
pub mod Folding
pub mod Neighbours
pub mod Folded
pub mod Noted
pub mod Filling
pub mod Filled
pub mod Behind
pub mod Vertices
pub mod Building
