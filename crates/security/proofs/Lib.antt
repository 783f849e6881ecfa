pub mod ExchangeLaws
pub mod MarginLaws
pub mod SpreadLaws
