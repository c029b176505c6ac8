use Rattle.std.proofs.Common.{◌≡◌, ℕ, ◌<◌, length, get_or, set, sym, ap, ◌∙◌, arith, ⊎_elim}
use Rattle.std.proofs.lemmas.Bool.{cases_eq}
use Rattle.std.proofs.lemmas.List.{get_or-set_same, get_or-set_other, get_or_default, same_lists}
use Rattle.abstraction_groups.specs.Changes.{plain, plain_all}
use Rattle.abstraction_groups.proofs.ReadLaws.{plain_at_place, length-plain}
use Rattle.abstraction_groups.proofs.read.make_plain.Goals as goal

pub loop-place-preserved : goal.loop-place-preserved
loop-place-preserved c =
    let ds = c.args.digits.now in
    let old = c.args.changes.now in
    let now = c.loop-place.changes in
    let i = c.loop-place.place in
    let inside : i < length old = omega arith in
    record {
      done = λ k e l. ⊎_elim
          (λ (q : k ≡ i).
          ap (λ (j : ℕ). get_or (set now i c.plain.result) j e) q ∙ get_or-set_same now i c.plain.result e (omega arith)
          ∙ c.plain.ensures ∙ ap (plain _) (c.loop-place.invariant.left i _ (omega arith) ∙ get_or_default old i _ e inside)
          ∙ sym (plain_at_place ds old i _ e c.requires inside) ∙ ap (λ (j : ℕ). get_or (plain_all ds old) j e) (sym q))
          (λ (ne : k ≡ i → ⊥). get_or-set_other now i k c.plain.result e ne ∙ c.loop-place.invariant.done k e (omega arith))
          (cases_eq k i);
      left = λ k e l. let ne : k ≡ i → ⊥ = λ q. omega arith in get_or-set_other now i k c.plain.result e ne ∙ c.loop-place.invariant.left k e (omega arith);
    }

pub returns : goal.returns
returns c =
    let ds = c.args.digits.now in
    let old = c.args.changes.now in
    let long = length-plain ds old c.requires in
    same_lists c.loop-place.changes (plain_all ds old) (omega arith) (λ k e l. c.loop-place.invariant.done k e (omega arith))
