pub mod Reports
pub mod Validations
pub mod Checks
pub mod SasChecks
