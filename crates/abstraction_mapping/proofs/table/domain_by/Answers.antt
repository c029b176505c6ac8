use Rattle.std.proofs.Common.{ap}
use Rattle.std.proofs.lemmas.Bool.{iff_false}
use Rattle.abstraction_mapping.specs.Mappings as spec
use Rattle.abstraction_mapping.proofs.MappingTests.{none_unless_increasing, domain_from}
use Rattle.abstraction_mapping.proofs.table.domain_by.Goals as goal

pub returns-then-not-are_increasing : goal.returns-then-not-are_increasing
returns-then-not-are_increasing c =
    none_unless_increasing c.args.task.now (spec.Domains c.args.rows.now) (iff_false c.are_increasing.ensures c.if-not-are_increasing.true)

pub returns-in-Ok : goal.returns-in-Ok
returns-in-Ok c = (
  domain_from c.args.task.now c.args.rows.now (c.are_increasing.ensures.0 c.if-not-are_increasing.false) c.in-Ok.ensures.within.0 c.in-Ok.ensures.within.1,
  c.in-Ok.ensures.domain.0,
  ap spec.Domains c.in-Ok.ensures.domain.1,
)
