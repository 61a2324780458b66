-- Text as bytes: characters, decimal numbers, blood figures, and the law of the decimal digits.
pub mod Characters
pub mod Words
pub mod Decimal
pub mod Figure
pub mod Internal
pub mod Laws
