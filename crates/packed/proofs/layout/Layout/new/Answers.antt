use Rattle.std.proofs.Common.{◌≡◌, ◌≤◌, length, arith, sym, ap, subst, ◌∙◌}
use Rattle.std.proofs.lemmas.List.{length-map, take_all}
use Rattle.fdr.specs.Tasks.{ranges}
use Rattle.packed.specs.Fields as spec
use Rattle.packed.proofs.Limits.{ranges_within_limits}
use Rattle.packed.proofs.layout.Layout.new.Goals as goal

pub invariant_of-result : goal.invariant_of-result
invariant_of-result c =
    let task = c.args.task.now in
    let all : length (ranges task) ≤ c.loop-variable.variable =
    omega (arith, c.loop-variable-test.false, c.variable_count-variable-end.ensures, length-map task.value_names length) in
    let whole : c.loop-variable.ranges.items ≡ ranges task = c.loop-variable.invariant ∙ take_all c.loop-variable.variable (ranges task) all in
    record {
      limits = subst (λ rs. spec.AreWithinLimits rs) (sym whole) (ranges_within_limits task c.recall.ensures.limits);
      fields = c.in_ok-fields.ensures.fields ∙ ap spec.fields c.deref.ensures.value;
      word_count = c.in_ok-fields.ensures.word_count ∙ ap spec.word_count c.deref.ensures.value;
    }
