pub mod Owners
pub mod Seats
pub mod Turns
pub mod Moves
pub mod Replies
