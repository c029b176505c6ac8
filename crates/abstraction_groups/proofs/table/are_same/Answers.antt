use Rattle.std.proofs.Common.{◌≡◌, ℕ, true, false, get_or, sym, ap, ◌∙◌, arith, ⊎_elim}
use Rattle.std.proofs.lemmas.Bool.{cases_eq}
use Rattle.std.proofs.lemmas.List.{get_or_default}
use Rattle.abstraction_groups.specs.declared.change.Change.{Change}
use Rattle.abstraction_groups.specs.declared.change.Change.TheVariants.{Kept}
use Rattle.abstraction_groups.specs.Changes.{same_at}
use Rattle.abstraction_groups.proofs.TableLaws.{same_by, differ_at, differ_long}
use Rattle.abstraction_groups.proofs.table.are_same.Goals as goal

pub returns-then-changes-others : goal.returns-then-changes-others
returns-then-changes-others c = sym (differ_long c.args.changes.now c.args.others.now (λ e. c.if-changes-others.true e))

pub returns-then-not-is_same : goal.returns-then-not-is_same
returns-then-not-is_same c =
    let tested : same_at (get_or c.args.changes.now c.loop-place.place Kept) (get_or c.args.others.now c.loop-place.place Kept) ≡ false = sym c.is_same.ensures ∙ c.if-not-is_same.true in
    sym (differ_at c.args.changes.now c.args.others.now c.loop-place.place Kept Kept (omega arith) (omega arith) tested)

pub loop-place-preserved : goal.loop-place-preserved
loop-place-preserved c k d e l =
    let i = c.loop-place.place in
    let xs = c.args.changes.now in
    let ys = c.args.others.now in
    let tested : same_at (get_or xs i Kept) (get_or ys i Kept) ≡ true = sym c.is_same.ensures ∙ c.if-not-is_same.false in
    ⊎_elim
    (λ (q : k ≡ i).
    let first : get_or xs k d ≡ get_or xs i Kept = ap (λ (j : ℕ). get_or xs j d) q ∙ get_or_default xs i d Kept (omega arith) in
    let second : get_or ys k e ≡ get_or ys i Kept = ap (λ (j : ℕ). get_or ys j e) q ∙ get_or_default ys i e Kept (omega arith) in
    ap (λ (x : Change). same_at x (get_or ys k e)) first ∙ ap (same_at (get_or xs i Kept)) second ∙ tested)
    (λ (ne : k ≡ i → ⊥). c.loop-place.invariant k d e (omega arith))
    (cases_eq k i)

pub returns : goal.returns
returns c = sym (same_by c.args.changes.now c.args.others.now (omega arith) (λ k d e l. c.loop-place.invariant k d e (omega arith)))
