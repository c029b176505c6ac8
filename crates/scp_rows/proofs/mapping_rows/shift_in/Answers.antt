use Rattle.std.proofs.Common.{◌≡◌, ℕ, ◌+◌, ◌<◌, List, Some}
use Rattle.fdr.specs.Tasks.{ranges, IsState, step}
use Rattle.abstraction_groups.specs.declared.shift.Shift.{Shift}
use Rattle.abstraction_groups.specs.Entrances.{LeadsTo}
use Rattle.scp_rows.proofs.MoveLaws.{each_some, shift_moves}
use Rattle.scp_rows.proofs.mapping_rows.shift_in.Goals as goal

pub returns : goal.returns
returns g c =
    let task = g.A.Abstraction.task c.args.abstraction.now in
    let a = g.A.Abstraction.abstraction c.args.abstraction.now in
    let o = c.args.operator in
    each_some
    (λ (s : Shift). (i j : ℕ) → j < a.size → LeadsTo a o i j → j + s.less ≡ i + s.more)
    (λ (s : Shift). (state next : List ℕ) → IsState (ranges task) state → step task state o ≡ Some next → a.index next + s.less ≡ a.index state + s.more)
    c.shift_of.result (λ s shifts state next ok leads. shift_moves task a (g.met.A.Abstraction.abstracts c.args.abstraction.now) o s shifts state next ok leads)
    c.shift_of.ensures.shift
