-- The state of a form, said by the ranges of the table and by those of the space's task, which are the same.
use Rattle.std.proofs.Common.{◌≡◌, ℕ, List, Option, sym, ap, ◌∙◌, subst}
use Rattle.cost.specs.Distances.{Distance, Finite, ◌+ᵈ◌}
use Rattle.fdr.specs.Tasks.{ranges}
use Rattle.owner_theory.specs.Owners.{Node}
use Rattle.openlist.specs.declared.entry.Rank.{Rank}
use Rattle.closed.specs.declared.message.Parent.{Parent}
use Rattle.closed.specs.declared.table.Outcome.{Outcome}
use Rattle.closed.specs.Tables.{reached, outcome_of, fresh}
use Rattle.owner_reached.specs.Queues.{ReachedOf, h_of}

-- `inside` has the fields and `seen` is the value, `of_table` are the table's ranges
module _ {S F : Type 0} (values : List ℕ → F → List ℕ) (form : F) (rank : Rank) (parent : Option Parent) (inside seen : ReachedOf S)
    (of_table : List ℕ) (is : of_table ≡ ranges inside.space.task) (view : inside ≡ seen) where
  same : of_table ≡ ranges seen.space.task
  same = is ∙ ap (λ (r : ReachedOf S). ranges r.space.task) view

  pub form_inside : (IsForm : List ℕ → F → Type 0) → IsForm (ranges seen.space.task) form → IsForm of_table form
  form_inside IsForm h = subst (λ (rs : List ℕ). IsForm rs form) (sym same) h

  pub f_inside : (f : Distance) → f ≡ Finite rank.cost +ᵈ h_of seen.space (values (ranges seen.space.task) form)
      → f ≡ Finite rank.cost +ᵈ h_of inside.space (values of_table form)
  f_inside f h = h ∙ (λ j. Finite rank.cost +ᵈ h_of ((sym view j).space) (values (sym same j) form))

  pub outcome_inside : (o : Outcome) → o ≡ outcome_of seen.nodes (fresh (values (ranges seen.space.task) form) rank parent)
      → o ≡ outcome_of inside.nodes (fresh (values of_table form) rank parent)
  outcome_inside o h = h ∙ (λ j. outcome_of ((sym view j).nodes) (fresh (values (sym same j) form) rank parent))

  pub nodes_seen : (nodes : List Node) → nodes ≡ reached inside.nodes (fresh (values of_table form) rank parent)
      → nodes ≡ reached seen.nodes (fresh (values (ranges seen.space.task) form) rank parent)
  nodes_seen nodes h = h ∙ (λ j. reached ((view j).nodes) (fresh (values (same j) form) rank parent))
