-- The lemmas behind the report.
mod Telling
mod Writing
