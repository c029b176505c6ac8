use Rattle.std.proofs.Common.{◌≡◌, take}
use Rattle.std.specs.Option.{option_map_or}
use Rattle.abstraction_mapping.specs.Views.{abstraction_in}
use Rattle.checker_tables.specs.TableFaults.{IsFirstFall}
use Rattle.checker_tables.proofs.transitions.first_fall.Given as goal

abbrev pub invariant-loop-spender : goal.invariant-loop-spender
invariant-loop-spender l = record {
  first : IsFirstFall (abstraction_in l.abstraction) l.values (take l.spender-index l.spenders) l.found;
  limit : l.limit ≡ option_map_or (λ f. f.0) l.found (abstraction_in l.abstraction).size;
}
