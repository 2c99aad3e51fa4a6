-- The lemmas of this crate.
mod Lists
mod AnsweredBoth
mod Turning
mod Serving
mod Seating
mod Opening
mod Joining
mod LooksAhead
mod Rounding
mod HandingOver
mod Writing
mod Calling
