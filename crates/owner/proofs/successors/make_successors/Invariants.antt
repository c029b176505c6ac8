use Rattle.std.proofs.Common.{◌≡◌, map, take, All}
use Rattle.owner.specs.Owned.{space_of}
use Rattle.owner.specs.Successors.{IsSuccessor}
use Rattle.owner.proofs.successors.make_successors.Given as goal

abbrev pub invariant-loop-operator : goal.invariant-loop-operator
invariant-loop-operator g l =
    record {
      operators : map (λ s. s.operator) l.successors.items ≡ take l.operator-index l.operators;
      each : All (IsSuccessor g.F.StateForm.IsForm g.F.StateForm.values (space_of g.S.Spread.owner l.holdings) l.state) l.successors.items;
    }
