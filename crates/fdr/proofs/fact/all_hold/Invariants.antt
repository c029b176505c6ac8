use Rattle.std.proofs.Common.{◌≡◌, drop}
use Rattle.std.specs.List.{list_all}
use Rattle.fdr.specs.Tasks as spec
use Rattle.fdr.proofs.fact.all_hold.Given as goal

abbrev pub invariant-loop-fact : goal.invariant-loop-fact
invariant-loop-fact l = list_all (spec.holds l.state) (drop l.fact-index l.facts) ≡ list_all (spec.holds l.state) l.facts
