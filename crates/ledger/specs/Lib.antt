-- The calls of a book, the ledger beside it, the rules of the calls, and the law between ledger and book.
pub mod Scales
pub mod Calls
pub mod Refusals
pub mod ByCode
pub mod Content
pub mod Amounts
pub mod Ledger
pub mod Law
pub mod Tests
pub mod Moves
pub mod CashRules
pub mod OrderRules
pub mod CombinationRules
pub mod FillRules
pub mod Order
pub mod Runs
pub mod Keeps
