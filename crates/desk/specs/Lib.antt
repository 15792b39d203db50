pub mod Factors
pub mod FactorLaws
pub mod PriceLaws
pub mod PriceTexts
pub mod Replies
pub mod Sessions
