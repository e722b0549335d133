pub mod Page
pub mod Decimal
