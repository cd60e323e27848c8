-- Lemmas on rows.
pub mod After
pub mod Order
pub mod Places
