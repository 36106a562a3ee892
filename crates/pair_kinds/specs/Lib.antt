pub mod PairTable
pub mod PairLaws
