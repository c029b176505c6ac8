use Rattle.std.proofs.Common.{◌≡◌, ℕ, ◌+◌, ◌-◌, ◌<◌, ◌≤◌, true, false, List, [], length, get_or, sym, ap, ◌∙◌, subst, arith, Some, ⊎_elim}
use Rattle.std.specs.Prelude.{slice_get, slice_index}
use Rattle.std.proofs.lemmas.Option.{slice_get-get_or}
use Rattle.std.proofs.lemmas.Bool.{false≢true}
use Rattle.abstraction_groups.specs.declared.change.Change.{Change}
use Rattle.abstraction_groups.specs.Changes.{same}
use Rattle.abstraction_groups.specs.RowLaws.{same_is, same_self}
use Rattle.abstraction_groups.specs.Tables.{Reaches}
use Rattle.abstraction_groups.proofs.TableLaws.{chain_end, chain_next}
use Rattle.abstraction_groups.proofs.table.ChangeTable.find.Goals as goal

pub loop-link-init : goal.loop-link-init
loop-link-init c =
    let t = c.requires.chained in
    let heads = c.deref-heads.ensures.value in
    let links = c.deref-links.ensures.value in
    record {
      low = rw heads (t.heads_below c.args.bucket);
      left = λ g e. rw (heads, links) (subst (λ (b : ℕ). Reaches c.args.self.now.links.items (slice_index c.args.self.now.heads.items b) g) (sym c.requires.bucket) (t.reached g c.args.changes.now e));
    }

pub returns-then-are_same-clause-found : goal.returns-then-are_same-clause-found
returns-then-are_same-clause-found c =
    let rows = c.args.self.now.rows in
    let n = c.loop-link.link - 1 in
    let inside : n < length rows = omega (arith, c.loop-link.invariant.low) in
    let tested : same (get_or rows n []) c.args.changes.now ≡ true = ap (λ (cs : List Change). same cs c.args.changes.now) (sym c.get.ensures) ∙ sym c.are_same.ensures ∙ c.if-are_same.true in
    slice_get-get_or rows n [] inside ∙ ap Some (same_is (get_or rows n []) c.args.changes.now tested)

pub loop-link-preserved : goal.loop-link-preserved
loop-link-preserved c =
    let t = c.requires.chained in
    let rows = c.args.self.now.rows in
    let links = c.deref-links.ensures.value in
    let n = c.loop-link.link - 1 in
    let inside : n < length rows = omega (arith, c.loop-link.invariant.low) in
    let tested : same (get_or rows n []) c.args.changes.now ≡ false = ap (λ (cs : List Change). same cs c.args.changes.now) (sym c.get.ensures) ∙ sym c.are_same.ensures ∙ c.if-are_same.false in
    let less : get_or c.deref-links.result.now n 0 ≤ n = rw links (t.links_below n inside) in
    record {
      low = omega (arith, less, inside);
      left = λ g e.
          ⊎_elim
          (λ (q : c.loop-link.link ≡ g + 1).
          let here : n ≡ g = omega arith in
          let at : slice_get rows n ≡ Some c.args.changes.now = subst (λ (k : ℕ). slice_get rows k ≡ Some c.args.changes.now) (sym here) e in
          let row : get_or rows n [] ≡ c.args.changes.now = let read = slice_get-get_or rows n [] inside in cc in
          let yes : same (get_or rows n []) c.args.changes.now ≡ true = ap (λ (cs : List Change). same cs c.args.changes.now) row ∙ same_self c.args.changes.now in
          absurd (false≢true (sym tested ∙ yes)))
          (λ (r : Reaches c.deref-links.result.now (slice_index c.deref-links.result.now n) g). r)
          (chain_next c.deref-links.result.now c.loop-link.link g (c.loop-link.invariant.left g e));
    }

pub returns-clause-absent : goal.returns-clause-absent
returns-clause-absent c g e = chain_end c.deref-links.result.now c.loop-link.link g (omega arith) (c.loop-link.invariant.left g e)
