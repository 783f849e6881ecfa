pub mod DomainTexts
pub mod Standings
