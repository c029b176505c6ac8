pub mod ValueSums
pub mod ValueSumLaws
