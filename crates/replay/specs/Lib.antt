-- What a report says of the day file that it was made from, and its text.
pub mod Text
pub mod Lines
pub mod Replayed
