pub mod MappingTests
