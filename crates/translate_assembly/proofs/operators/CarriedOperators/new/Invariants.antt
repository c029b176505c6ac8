use Rattle.std.proofs.Common.{◌≡◌, take}
use Rattle.std.specs.Prelude.{is_some}
use Rattle.std.specs.List.{filter_map}
use Rattle.translate_assembly.specs.Slots.{look_up}
use Rattle.translate_assembly.specs.Operators.{made_operator, places_where}
use Rattle.translate_assembly.proofs.operators.CarriedOperators.new.Given as goal

abbrev pub invariant-loop-place : goal.invariant-loop-place
invariant-loop-place l =
    record {
      operators : l.made.operators.items ≡ filter_map (made_operator (look_up l.table) l.vocabulary) (take l.place l.actions);
      carried : l.made.carried.items ≡ places_where (λ a. is_some (made_operator (look_up l.table) l.vocabulary a)) 0 (take l.place l.actions);
    }
