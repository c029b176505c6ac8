pub mod TermSteps
