-- What holds where a call fails.
use Rattle.std.proofs.Common.{OnErr}
use Rattle.std.specs.Prelude.{Result, Ok, Err}

pub on_err : {V E : Type 0} (r : Result V E) (P : Type 0) → P → OnErr r P
on_err (Ok v) P h = tt
on_err (Err e) P h = h
