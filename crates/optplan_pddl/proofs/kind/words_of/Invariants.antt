use Rattle.std.proofs.Common.{◌≡◌, ◌∷◌, [], map, take, slice_index_or}
use Rattle.pddl_names.specs.Names.{texts_of}
use Rattle.optplan_pddl.proofs.kind.words_of.Given as goal

abbrev pub invariant-loop-object : goal.invariant-loop-object
invariant-loop-object l =
    texts_of l.words.items ≡ slice_index_or l.names.predicates l.atom.predicate [] ∷ map (λ o. slice_index_or l.names.objects o []) (take l.object-index l.atom.objects)
