pub mod Sums
pub mod Tests
pub mod Entries
pub mod Answers
pub mod Refusals
