-- What a row of a batch card answers, and its laws.
pub mod RowAnswer
pub mod Answer
pub mod Survey
pub mod Internal
pub mod Laws
