-- A list of which another begins with all is no longer.
use Rattle.std.proofs.Common.{◌≡◌, ◌≤◌, List, ◌++◌, length, ap, arith, length-append}
use mathlib.Core.List.{IsPrefix}

pub prefix_shorter : {A : Type 0} (xs ys : List A) → IsPrefix xs ys → length xs ≤ length ys
prefix_shorter {A} xs ys (t, e) = let l : length (xs ++ t) ≡ length ys = ap length e in omega (arith, length-append xs t)
