pub mod Unions
pub mod ValuesAt
