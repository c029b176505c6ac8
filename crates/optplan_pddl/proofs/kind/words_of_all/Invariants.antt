use Rattle.std.proofs.Common.{◌≡◌, map, take}
use Rattle.cert_value.specs.Views.{atom_of}
use Rattle.checker.specs.Naming.{words_of}
use Rattle.optplan_pddl.proofs.kind.words_of_all.Given as goal

abbrev pub invariant-loop-atom : goal.invariant-loop-atom
invariant-loop-atom l = map atom_of l.words.items ≡ map (words_of l.names) (take l.atom-index l.atoms)
