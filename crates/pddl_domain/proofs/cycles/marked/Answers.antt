use Rattle.std.proofs.Common.{◌==◌, ℕ, false, List, ap, ◌∙◌}
use Rattle.std.specs.List.{list_any}
use Rattle.std.proofs.lemmas.List.{take_all}
use Rattle.std.proofs.lemmas.List.FromFn.{fill_by_all}
use Rattle.pddl_domain.proofs.cycles.marked.Goals as goal

pub returns : goal.returns
returns c =
    let ts = c.args.types.now in
    fill_by_all (λ (n : ℕ). list_any (λ (t : ℕ). t == n) ts) c.loop-place.marks.items c.args.count false c.loop-place.invariant.count
    (λ k lt. c.loop-place.invariant.marks k lt
    ∙ ap (λ (xs : List ℕ). list_any (λ (t : ℕ). t == k) xs) (take_all c.loop-place.place-index ts c.loop-place-test.false))
