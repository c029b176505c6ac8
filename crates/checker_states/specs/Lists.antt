-- Whether an entry answers a look-up.
use Rattle.std.specs.Prelude.{ℕ, Bool, ◌&&◌, nat_eq, nat_le, List}
use Rattle.std.specs.Cmp.Lexicographic.{pointwise}
use Rattle.cert_value.specs.Certificates.{Entry}

-- the entry has the state with at most this cost
abbrev pub lists : List ℕ → ℕ → Entry → Bool
lists state cost e = pointwise nat_eq e.state state && nat_le e.cost cost
