use Rattle.std.proofs.Common.{◌≡◌, ℕ, ◌<◌, ◌≤◌, get_or}
use Rattle.abstraction_groups.specs.declared.change.Change.{Change}
use Rattle.abstraction_groups.specs.Changes.{plain_all}
use Rattle.abstraction_groups.proofs.read.make_plain.Given as goal

abbrev pub invariant-loop-place : goal.invariant-loop-place
invariant-loop-place l = record {
  done : (k : ℕ) (c : Change) → k < l.place → get_or l.changes k c ≡ get_or (plain_all l.digits l.fn.changes) k c;
  left : (k : ℕ) (c : Change) → l.place ≤ k → get_or l.changes k c ≡ get_or l.fn.changes k c;
}
