pub mod CertFaultLines
pub mod CertRepeats
pub mod SasFaultLines
