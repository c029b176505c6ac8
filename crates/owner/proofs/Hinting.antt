-- Hints of the owner's own successors.
use Rattle.std.proofs.Common.{◌≡◌, ℕ, ◌<◌, List, length, get_or, refl, arith}
use Rattle.std.specs.Hash.{HashWrites}
use Rattle.std.proofs.lemmas.Option.{slice_get-get_or, slice_get_read}
use Rattle.closed.specs.declared.rows.Hint.{Hint}
use Rattle.closed.specs.Hints.{IsHintFor}
use Rattle.owner.specs.declared.successors.Successor.{Successor}
use Rattle.owner.specs.Successors.{AreOwnHints}

-- the hint of a successor
pub own_hint : {F : Type 0} (writes : F → HashWrites) (me : ℕ) (ss : List (Successor F)) (hs : List Hint) (k : ℕ) (s : Successor F) (none : Hint)
    → AreOwnHints writes me ss hs → length hs ≡ length ss → k < length ss → s ≡ get_or ss k s → s.owner ≡ me
    → IsHintFor writes s.state (get_or hs k none)
own_hint writes me ss hs k s none are long lt is own =
    are k s (get_or hs k none) (slice_get_read ss (length ss) k s refl lt is) (slice_get-get_or hs k none (omega (arith, lt, long))) own
