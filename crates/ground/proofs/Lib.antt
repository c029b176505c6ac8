pub mod ObjectLists
pub mod SearchLaws
pub mod SchemaLaws
pub mod AgreementLaws
pub mod WalkLaws
pub mod IndexLaws
pub mod RoundLaws
pub mod ClosingLaws
