pub mod PairLemmas
pub mod Searching
