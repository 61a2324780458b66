-- Decimal digits, and text put into lent bytes.
pub mod DecimalIsWritten
pub mod Digits
pub mod Puts
