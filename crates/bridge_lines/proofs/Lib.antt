-- The lemmas of this crate, lowest first.
mod Places
mod Numerals
mod Feeding
mod Texting
mod Lining
mod RoundTrips
mod Telling
