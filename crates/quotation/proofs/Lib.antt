pub mod AgreementLaws
pub mod QuoteCases
pub mod QuoteLaws
