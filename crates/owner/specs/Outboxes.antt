-- Outboxes as they are stored, from the crate that defines them.
pub use Rattle.owner_outboxes.specs.Outboxes.{shown, count_in_use, without_last, withdrawn}
