use Rattle.std.proofs.Common.{◌≡◌, map}
use Rattle.pddl_names.specs.Names.{texts_of}
use Rattle.optplan_pddl.proofs.steps.words.Given as goal

abbrev pub invariant-loop-word : goal.invariant-loop-word
invariant-loop-word l = texts_of l.words.items ≡ map (λ w. w.now) l.yielded
