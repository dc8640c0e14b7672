pub mod Returns
pub mod ReadsBack
pub mod Compares
pub mod RecordAgain
pub mod Demands
