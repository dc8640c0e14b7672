pub mod Saying
pub mod Facing
pub mod Marks
pub mod Corners
pub mod Spheres
pub mod Judging
