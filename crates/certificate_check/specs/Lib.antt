pub mod Bounded
pub mod CiteRulings
pub mod Judged
pub mod Records
pub mod Rulings
pub mod Verdicts
