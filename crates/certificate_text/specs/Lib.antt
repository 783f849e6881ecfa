pub mod CertificateTexts
pub mod Lines
pub mod Pieces
