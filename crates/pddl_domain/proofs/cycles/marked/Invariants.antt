use Rattle.std.proofs.Common.{◌≡◌, ◌<◌, ◌==◌, ℕ, length, take, get_or, false}
use Rattle.std.specs.List.{list_any}
use Rattle.pddl_domain.proofs.cycles.marked.Given as goal

abbrev pub invariant-loop-place : goal.invariant-loop-place
invariant-loop-place l = record {
  count : length l.marks.items ≡ l.count;
  marks : (k : ℕ) → k < l.count → get_or l.marks.items k false ≡ list_any (λ t. t == k) (take l.place-index l.types);
}
