use Rattle.std.proofs.Common.{false, ⊎_elim}
use Rattle.std.specs.Prelude.{slice_index_or}
use Rattle.std.proofs.lemmas.List.{take_all, get_or_default, get_or_past}
use Rattle.fdr.specs.declared.fact.Fact.{Fact}
use Rattle.pdb_refinement.proofs.Chosen.{allowed_more, allowed_same}
use Rattle.pdb_refinement.proofs.choice.allow.Goals.{then-is_set+then-variable-banned, else-is_set}
use Rattle.pdb_refinement.proofs.choice.allow.Goals as goal

pub loop-position-preserved : goal.loop-position-preserved
loop-position-preserved c = elim c.if-is_set.branch [
  | then-is_set+then-variable-banned w ↦
      rw w.banned-is (allowed_more c.args.goal.now c.args.considered.now c.loop-position.position c.loop-position-test.true c.loop-position.banned
      (slice_index_or c.args.goal.now c.loop-position.position (record { variable = 0; value = 0 }))
      (λ d. get_or_default c.args.goal.now c.loop-position.position d (record { variable = 0; value = 0 }) c.loop-position-test.true) c.loop-position.invariant)
  | else-is_set w ↦
      let none : Fact = record { variable = 0; value = 0 } in
      let same = λ (d : Fact). get_or_default c.args.goal.now c.loop-position.position d none c.loop-position-test.true in
      rw w.banned-is (allowed_same c.args.goal.now c.args.considered.now c.loop-position.position c.loop-position-test.true c.loop-position.banned
      (λ d e. ⊎_elim
      (λ past. rw (same d) (get_or_past c.loop-position.banned (slice_index_or c.args.goal.now c.loop-position.position none).variable false past.1))
      (λ unset. (cc (c.is_set.ensures, unset, e)))
      w.else-is_set.either)
      c.loop-position.invariant)
]

pub returns : goal.returns
returns c = rw (take_all c.loop-position.position c.args.goal.now c.loop-position-test.false) at c.loop-position.invariant
