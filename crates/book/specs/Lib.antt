-- What a book keeps.
pub mod Book
pub mod Questions
pub mod Checks
pub mod Sides
pub mod Facts
pub mod Played
pub mod Compared
