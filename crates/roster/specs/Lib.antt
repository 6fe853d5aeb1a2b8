pub mod Roster
pub mod Changes
pub mod Laws
pub mod Places
pub mod Valid
