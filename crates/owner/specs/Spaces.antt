-- The search space of owners, from the crate that defines it.
pub use Rattle.owner_space.specs.Spaces.{SpaceOf, searched}
