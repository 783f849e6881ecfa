pub mod Quotients
pub mod QuotientLaws
pub mod Ring
pub mod SumLaws
pub mod Sums
pub mod TotalLaws
