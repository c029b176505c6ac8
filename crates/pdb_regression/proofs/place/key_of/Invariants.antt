use Rattle.std.specs.Prelude.{IfSome}
use Rattle.pdb_regression.specs.Tables.{IsKey}
use Rattle.pdb_regression.proofs.place.key_of.Given as goal

abbrev pub invariant-loop-place : goal.invariant-loop-place
invariant-loop-place l = IfSome l.widest (λ key. IsKey l.places l.rule key.place key.value)
