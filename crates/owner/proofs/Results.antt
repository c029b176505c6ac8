-- What is pushed where there is room is there.
use Rattle.std.proofs.Common.{◌≡◌, List, cond, sym, true≢false}
use Rattle.std.specs.Prelude.{Result, Ok, Err, IsOk, is_ok}

pub pushed_room : {V E X : Type 0} (r : Result V E) (xs ys zs : List X) → IsOk r → zs ≡ cond (is_ok r) xs ys → zs ≡ xs
pushed_room (Ok v) xs ys zs ok is = is
pushed_room (Err e) xs ys zs ok is = absurd (true≢false (sym ok))
