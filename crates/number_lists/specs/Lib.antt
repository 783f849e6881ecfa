pub mod ListLaws
pub mod Lists
pub mod WordLaws
pub mod Words
