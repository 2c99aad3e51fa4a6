-- The laws of this crate.
pub mod Lines
pub mod Tables
pub mod CardWorlds
