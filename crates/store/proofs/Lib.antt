pub mod KnownLemmas
pub mod Searches
