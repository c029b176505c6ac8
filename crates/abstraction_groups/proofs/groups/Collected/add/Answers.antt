use Rattle.std.proofs.Common.{◌≡◌, ◌+◌, List, [], ◌∷◌, ◌++◌, length, sym, ap, ◌∙◌, subst, arith, Some, ⊎_elim}
use Rattle.std.specs.Prelude.{slice_get}
use Rattle.abstraction.specs.declared.digit.Digit.{Digit}
use Rattle.abstraction_groups.specs.declared.change.Change.{Change}
use Rattle.abstraction_groups.specs.Changes.{at_digits, pair_count, with_row}
use Rattle.abstraction_groups.specs.Collected.{count_in}
use Rattle.abstraction_groups.specs.RowLaws.{AreDistinct}
use Rattle.abstraction_groups.proofs.CollectLaws.{with_row_cases, row_number, count_with}
use Rattle.abstraction_groups.proofs.groups.Collected.add.Goals as goal
use Rattle.abstraction_groups.proofs.groups.Collected.add.Goals.{then-group-before, else-group-before}

pub overflow_cast-group : goal.overflow_cast-group
overflow_cast-group c =
    let rows = c.args.self.now.table.rows in
    let cs : List Change = c.args.changes.now in
    let at : slice_get (with_row rows cs) c.in_ok-group.group ≡ Some cs = subst (λ (xs : List (List Change)). slice_get xs c.in_ok-group.group ≡ Some cs) c.in_ok-group.ensures.rows c.in_ok-group.ensures.number in
    let below = row_number rows cs c.in_ok-group.group at in
    omega (arith, c.requires.few)

pub returns-clause-count : goal.returns-clause-count
returns-clause-count c =
    let rows = c.args.self.now.table.rows in
    let cs : List Change = c.args.changes.now in
    let digits : List Digit = c.args.digits.now in
    let g = c.in_ok-group.group in
    let new : c.number_of.new.self.rows ≡ with_row rows cs = c.in_ok-group.ensures.rows in
    let at : slice_get (with_row rows cs) g ≡ Some cs = subst (λ (xs : List (List Change)). slice_get xs g ≡ Some cs) new c.in_ok-group.ensures.number in
    let distinct : AreDistinct (with_row rows cs) = subst AreDistinct new c.in_ok-group.ensures.chained.distinct in
    let cases = with_row_cases rows cs g at distinct in
    let before : c.len-before.result ≡ length rows = c.len-before.ensures in
    elim c.if-group-before.branch [
      | then-group-before w ↦
          let more : c.if-group-before.more ≡ pair_count (at_digits digits cs) = w.more-is ∙ w.pair_count-more.ensures.value in
          ⊎_elim
          (λ (h : (g ≡ length rows) × (with_row rows cs ≡ rows ++ cs ∷ [])).
          let sums : c.args.self.now.transition_count + c.if-group-before.more ≡ count_in digits rows + pair_count (at_digits digits cs) = omega (arith, more, c.requires.count) in
          sums ∙ sym (count_with digits rows cs) ∙ ap (count_in digits) (sym (new ∙ h.1)))
          (λ (h : (g ≡ length rows → ⊥) × (with_row rows cs ≡ rows)). absurd (h.0 (w.if-group-before.true ∙ before)))
          cases
      | else-group-before w ↦
          ⊎_elim
          (λ (h : (g ≡ length rows) × (with_row rows cs ≡ rows ++ cs ∷ [])). absurd (w.if-group-before.false (h.0 ∙ sym before)))
          (λ (h : (g ≡ length rows → ⊥) × (with_row rows cs ≡ rows)).
          let none : c.if-group-before.more ≡ 0 = w.more-is in
          let sums : c.args.self.now.transition_count + c.if-group-before.more ≡ count_in digits rows = omega (arith, none, c.requires.count) in
          sums ∙ ap (count_in digits) (sym (new ∙ h.1)))
          cases
    ]
