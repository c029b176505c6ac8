pub mod SasAnswers
