pub mod Moved
pub mod Meeting
pub mod Filled
pub mod Booking
