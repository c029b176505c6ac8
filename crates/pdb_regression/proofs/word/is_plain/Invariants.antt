use Rattle.std.proofs.Common.{take}
use Rattle.std.specs.Prelude.{All}
use Rattle.pdb_regression.specs.Words.{IsPlain}
use Rattle.pdb_regression.proofs.word.is_plain.Given as goal

abbrev pub invariant-loop-digit : goal.invariant-loop-digit
invariant-loop-digit l = All IsPlain (take l.digit-index l.digits)
