pub mod Calendar
pub mod Decimal
