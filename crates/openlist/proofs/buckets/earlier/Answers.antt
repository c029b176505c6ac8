use Rattle.openlist.proofs.FirstEntries.{IsFirstOf-min}
use Rattle.openlist.proofs.buckets.earlier.Goals as goal

pub returns-in-Some : goal.returns-in-Some
returns-in-Some c = λ entries is.
    rw c.min.ensures (IsFirstOf-min c.in-Some.first c.args.added entries (rw c.in-Some.is at is))
