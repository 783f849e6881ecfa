pub mod Exchanges
pub mod Multiples
pub mod Chosen
