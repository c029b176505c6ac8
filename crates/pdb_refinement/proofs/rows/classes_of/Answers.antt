use Rattle.std.proofs.Common.{◌≡◌, ℕ, List, get_or, ap, sym, ◌∙◌}
use Rattle.std.specs.Prelude.{slice_index}
use Rattle.std.proofs.lemmas.List.{get_or_read}
use Rattle.abstraction_domain.specs.Rows.{Row}
use Rattle.abstraction_domain.specs.Domains.{no_row}
use Rattle.pdb_refinement.proofs.WithRow.{class_first, class_none, zeros_read}
use Rattle.pdb_refinement.proofs.rows.classes_of.Goals as goal

pub returns-in_ok-classes-in-Some-clause-classes : goal.returns-in_ok-classes-in-Some-clause-classes
returns-in_ok-classes-in-Some-clause-classes c =
    let rows = c.args.rows.now in
    let first = c.in-Some.ensures.first in
    let row : c.index-rows-position.result ≡ get_or rows c.in-Some.position no_row = get_or_read rows c.in-Some.position c.index-rows-position.result first.within c.index-rows-position.is no_row in
    λ x. (ap (λ (xs : List ℕ). slice_index xs x) (c.in_ok-classes-in-Some.ensures.items ∙ c.classes.ensures.value) ∙ ap (λ (r : Row). slice_index r.classes x) row ∙ sym (class_first rows c.args.variable c.in-Some.position x first))

pub returns-in_ok-zeros-in-None-clause-classes : goal.returns-in_ok-zeros-in-None-clause-classes
returns-in_ok-zeros-in-None-clause-classes c =
    λ x. (ap (λ (xs : List ℕ). slice_index xs x) (c.in_ok-zeros-in-None.ensures.items_if_clones_equal (λ y e. e)) ∙ zeros_read c.range.result x ∙ sym (class_none c.args.rows.now c.args.variable x c.in-None.ensures.none))
