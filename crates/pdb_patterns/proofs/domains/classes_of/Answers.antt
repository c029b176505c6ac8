use Rattle.std.proofs.Common.{refl, arith}
use Rattle.std.proofs.lemmas.List.FromFn.{map-range_with_len_more}
use Rattle.pdb_patterns.specs.GoalClasses.{goal_class}
use Rattle.pdb_patterns.proofs.domains.classes_of.Goals as goal

pub loop-value-preserved : goal.loop-value-preserved
loop-value-preserved c =
    let more = map-range_with_len_more (goal_class c.args.limit c.args.goal) 0 c.loop-value.value c.loop-value.value (omega arith) in
    rw (c.in_ok-push.ensures.items, more, c.loop-value.invariant, c.class_of.ensures) refl
