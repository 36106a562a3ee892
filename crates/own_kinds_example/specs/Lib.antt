pub mod PriceTable
pub mod PriceLaws
