pub mod Texts
pub mod Sheets
