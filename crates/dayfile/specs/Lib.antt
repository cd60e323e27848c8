-- The packed day file: its layout, its faults, and what a sound file says.
pub mod Bytes
pub mod Faults
pub mod Fields
pub mod Layout
pub mod Records
pub mod Format
pub mod Located
pub mod Numbered
pub mod Reading
pub mod Read
pub mod Text
