pub mod DigitLaws
pub mod KindLaws
pub mod LeafLaws
pub mod PlaceLaws
