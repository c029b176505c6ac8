use Rattle.std.proofs.Common.{◌≡◌, ◌∷◌, map, drop, codes, ◌++◌}
use Rattle.pddl_names.specs.Names.{texts_of}
use Rattle.testing_runs.proofs.runs.program_words.Given as goal

abbrev pub invariant-loop-word : goal.invariant-loop-word
invariant-loop-word l =
    texts_of l.all.items ++ map (λ w. w.now) (drop l.word-index l.words) ≡ codes "optplan" ∷ map (λ w. w.now) l.words
