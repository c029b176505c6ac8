use Rattle.std.proofs.Common.{◌≡◌, map, take}
use Rattle.cert_value.specs.Views.{atom_of}
use Rattle.checker.specs.Naming.{named}
use Rattle.checker.proofs.naming.named_atoms.Given as goal

abbrev pub invariant-loop-words : goal.invariant-loop-words
invariant-loop-words l = l.atoms.items ≡ map (λ w. named l.names (atom_of w)) (take l.words-index l.words)
