pub mod GroupLaws
pub mod BesideLaws
