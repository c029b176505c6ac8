use Rattle.std.proofs.Common.{◌≡◌, ℕ, ◌<◌, ◌∙◌, sym, subst, true, arith}
use Rattle.pdb.specs.Searches.{IsStart}
use Rattle.pdb.proofs.Starts.{IsStart-goal, IsStart-other, IsSearch-from_start}
use Rattle.pdb.proofs.search.add_goals.Goals as goal
use Rattle.pdb.proofs.search.add_goals.Goals.{then-is_goal+in_ok-add, else-is_goal}

pub loop-state-preserved : goal.loop-state-preserved
loop-state-preserved g c =
    let a = g.A.Abstraction.abstraction c.args.abstraction.now in
    let n = c.loop-state.state in
    let start = c.loop-state.invariant in
    let inside : n < a.size = omega (arith, c.loop-state-test.true, c.requires.size) in
    elim c.if-is_goal.branch [
      | then-is_goal+in_ok-add w ↦
          let is_goal : a.is_goal n ≡ true = sym c.is_goal.ensures ∙ w.if-is_goal.true in
          rw (w.values-is, w.queue-is) (IsStart-goal a c.loop-state.values c.loop-state.queue w.add.new.self n inside is_goal start w.in_ok-add.ensures)
      | else-is_goal w ↦
          rw (w.values-is, w.queue-is) (IsStart-other a c.loop-state.values c.loop-state.queue n (λ h. let not_goal = w.if-is_goal.false in let is = c.is_goal.ensures in cc) start)
    ]

pub returns : goal.returns
returns g c =
    let a = g.A.Abstraction.abstraction c.args.abstraction.now in
    let values = c.loop-state.values in
    let queue = c.loop-state.queue in
    let end : c.loop-state.state ≡ a.size = omega (arith, c.loop-state-test.false, c.loop-state.auto.state-end, c.requires.size) in
    λ share. IsSearch-from_start a share values queue (g.met.A.Abstraction.is_small c.args.abstraction.now) (subst (λ (n : ℕ). IsStart a values queue n) end c.loop-state.invariant)
