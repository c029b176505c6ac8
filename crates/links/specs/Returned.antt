-- A list whose last element may have been put back.
use Rattle.std.specs.Prelude.{List, ◌-◌, take, length, Option, Some, None}

-- the elements that were not put back
abbrev pub but_returned : {A : Type 0} → List A → Option A → List A
but_returned xs None = xs
but_returned xs (Some x) = take (length xs - 1) xs
