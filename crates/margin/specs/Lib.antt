-- Contracts by their numbers, the listing of a day, the strategies, and the margins of legs and pairs.
pub mod Terms
pub mod Numbers
pub mod Listed
pub mod Listing
pub mod ByCode
pub mod Strategies
pub mod Fits
pub mod FittedPairs
pub mod Legs
pub mod Pairs
pub mod Raise
pub mod Meaning
pub mod Figures
pub mod Bounds
