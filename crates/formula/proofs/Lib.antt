pub mod DeliveryLaws
pub mod ParseLaws
pub mod WholeLaws
