use Rattle.std.proofs.Common.{◌≡◌, ◌≤◌, ◌^◌, ◌∙◌, sym, subst, ap}
use Rattle.fdr.specs.Tasks.{ranges}
use Rattle.abstraction.specs.Projections.{size_of, AllExist}
use Rattle.abstraction_mapping.specs.Mappings as spec
use Rattle.abstraction_mapping.specs.TestedMappings.{increasing_from}
use Rattle.abstraction_mapping.proofs.MappingTests.{pattern_from}
use Rattle.abstraction_mapping.proofs.table.projection_to.Goals as goal

pub new-requires : goal.new-requires
new-requires c =
    rw (c.deref.ensures.value, c.in_ok-places.ensures)
    (increasing_from c.args.pattern.now (sym c.is_increasing.ensures ∙ c.if-not-is_increasing.false))

pub returns-in-Ok : goal.returns-in-Ok
returns-in-Ok c =
    let same : c.deref.result.now ≡ c.args.pattern.now = c.deref.ensures.value ∙ c.in_ok-places.ensures in (
      pattern_from c.args.task.now c.args.pattern.now
          (increasing_from c.args.pattern.now (sym c.is_increasing.ensures ∙ c.if-not-is_increasing.false))
          (subst (AllExist (ranges c.args.task.now)) same c.in-Ok.ensures.within.0)
          (subst (λ ps. size_of (ranges c.args.task.now) ps ≤ 2 ^ 24) same c.in-Ok.ensures.within.1),
      c.in-Ok.ensures.projection.0,
      ap spec.Pattern (c.in-Ok.ensures.projection.1 ∙ same),
    )
