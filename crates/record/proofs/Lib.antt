-- The code's argument (results, rungs, the head, the text in pieces, the two calls), then the two theorems of a record.
pub mod ResultLaws
pub mod RungLaws
pub mod Pieces
pub mod HeadLaws
pub mod HeadSteps
pub mod Accepted
pub mod OpenLaws
pub mod Filled
pub mod PackLaws
pub mod Written
pub mod RoundTrip
