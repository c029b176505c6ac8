pub mod Mappings
pub mod Views
pub mod MappingLaws
pub mod ClassLaws
pub mod TestedMappings
pub mod TaskMappings
