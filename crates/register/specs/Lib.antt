-- What a register holds, and what its calls answer and leave.
pub mod Rows
pub mod Refusals
pub mod Numbers
pub mod Calls
pub mod Places
pub mod Laws
