mod Little
mod Checking
mod Firsts
mod Handed
mod Listings
mod Files
mod Telling
pub mod Calling
pub mod Viewing
