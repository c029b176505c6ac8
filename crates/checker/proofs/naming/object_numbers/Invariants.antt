use Rattle.std.proofs.Common.{◌≡◌, map, take, string_bytes}
use Rattle.pddl_names.specs.Names.{number_of}
use Rattle.checker.proofs.naming.object_numbers.Given as goal

abbrev pub invariant-loop-word : goal.invariant-loop-word
invariant-loop-word l = l.numbers.items ≡ map (λ w. number_of l.names (string_bytes w)) (take l.word-index l.words)
