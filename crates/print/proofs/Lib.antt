-- The printing function, and the lines that the document prints.
pub mod UnpackLaws
pub mod Examples
