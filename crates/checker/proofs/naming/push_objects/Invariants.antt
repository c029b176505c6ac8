use Rattle.std.proofs.Common.{◌≡◌, ◌∷◌, ◌++◌, [], take, slice_index_or, string_bytes}
use Rattle.std.specs.List.{flat_map}
use Rattle.checker.proofs.naming.push_objects.Given as goal

abbrev pub invariant-loop-object : goal.invariant-loop-object
invariant-loop-object l = string_bytes l.text ≡ string_bytes l.initial.text ++ flat_map (λ o. 32 ∷ slice_index_or l.names o []) (take l.object-index l.objects)
