use Rattle.std.proofs.Common.{◌≡◌, ◌≢◌, ◌≤◌, get_or, arith, ⊎_elim}
use Rattle.std.specs.Prelude.{slice_index}
use Rattle.std.proofs.lemmas.Bool.{cases_eq}
use Rattle.fdr.specs.Tasks.{ranges}
use Rattle.pdb_patterns.specs.Choices.{keeps}
use Rattle.pdb_patterns.proofs.GoalValues.{named_within}
use Rattle.pdb_patterns.proofs.choice.choose_mappings.Goals as goal
use Rattle.pdb_patterns.proofs.choice.choose_mappings.Goals.{in-Some-2+in_ok-push_mapping, in_default-2}

pub loop-first-preserved : goal.loop-first-preserved
loop-first-preserved c = elim c.match-branch-4.branch [
  | in-Some-2+in_ok-push_mapping w ↦
      let first = c.loop-first.first in
      let within = rw w.in-Some-2.is at c.in_ok-mapping.ensures.within in
      let kept = rw w.in-Some-2.is at c.in_ok-mapping.ensures.kept in
      let pushed = w.in_ok-push_mapping.ensures in
      record {
        mappings = rw w.mappings-is (pushed.mappings _ _ c.loop-first.invariant.mappings within (omega (arith, c.len.ensures, c.if-len-ge-MAX_MAPPINGS.false)));
        goal = rw w.mappings-is (λ few v below named may.
            ⊎_elim
            (λ (same : v ≡ first). rw same (pushed.listed (keeps first) kept))
            (λ (other : v ≢ first).
            pushed.others (keeps v) (c.loop-first.invariant.goal (omega (arith, few, pushed.longer)) v (omega (arith, below, other)) named may))
            (cases_eq v first));
      }
  | in_default-2 w ↦
      let first = c.loop-first.first in
      let none = rw w.in_default-2.is at c.in_ok-mapping.ensures.none in
      record {
        mappings = rw w.mappings-is c.loop-first.invariant.mappings;
        goal = rw w.mappings-is (λ few v below named may.
            ⊎_elim
            (λ (same : v ≡ first).
            absurd
            (⊎_elim (λ (two : 2 ≤ c.args.limit). omega (arith, two, none.0))
            (λ (fits : slice_index (ranges c.args.task.now) v ≤ c.args.limit). omega (arith, rw same at fits, none.1)) may))
            (λ (other : v ≢ first). c.loop-first.invariant.goal few v (omega (arith, below, other)) named may)
            (cases_eq v first));
      }
]

pub returns-clause-goal : goal.returns-clause-goal
returns-clause-goal c few k d l may =
    let named = c.in_ok-goals.ensures.named k d l in
    let exists = named_within c.in_ok-goals.goals.items (get_or c.args.task.now.goal k d).variable named in
    c.loop-first.invariant.goal few (get_or c.args.task.now.goal k d).variable
    (omega (arith, exists, c.in_ok-goals.ensures.as_many, c.loop-first-test.false, c.loop-first.auto.first-end, c.variable_count-first-end.ensures)) named may
