pub mod Table
pub mod Answers
pub mod Laws
pub mod Seat
pub mod Told
