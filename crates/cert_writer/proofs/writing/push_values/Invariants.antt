use Rattle.std.proofs.Common.{◌≡◌, ◌++◌, ◌∷◌, map, take}
use Rattle.std.specs.List.{flat_map}
use Rattle.cost.specs.Distances.{distance_text}
use Rattle.cert_writer.proofs.writing.push_values.Given as goal

abbrev pub invariant-loop-state : goal.invariant-loop-state
invariant-loop-state l = l.out.items ≡ l.fn.out.items ++ flat_map (λ q. 32 ∷ q) (map distance_text (take l.state l.values))
