pub mod CaseLaws
pub mod ListingLaws
