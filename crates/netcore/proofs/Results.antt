-- Results of which each side is described.
use Rattle.std.proofs.Common.{IfErr}
use Rattle.std.specs.Prelude.{Result, Ok, Err, MatchResult}

-- what follows for an error
pub if_err : {T E : Type 0} (r : Result T E) (P : T → Type 0) (Q R : E → Type 0) → ((e : E) → Q e → R e) → MatchResult r P Q → IfErr r R
if_err (Ok x) P Q R f h = tt
if_err (Err e) P Q R f h = f e h
