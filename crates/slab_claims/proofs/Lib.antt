pub mod EachOnceLaws
pub mod Totals
pub mod Steps
