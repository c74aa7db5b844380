pub mod Rooms
pub mod Rounds
pub mod Sheets
pub mod Searching
pub mod Calls
