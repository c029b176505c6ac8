use Rattle.std.proofs.Common.{◌≡◌, ℕ, List, get_or, refl, ap, ◌∙◌, subst}
use Rattle.fdr.specs.Tasks.{ranges}
use Rattle.abstraction.specs.Digits.{digits_from}
use Rattle.abstraction_domain.specs.Rows.{Row}
use Rattle.abstraction_domain.specs.Domains.{variables, class_counts}
use Rattle.abstraction_domain.proofs.RowLaws.{placed_class}
use Rattle.abstraction_groups.proofs.factored.DomainAbstractionFactoredAbstraction.class_of.Goals as goal

pub returns : goal.returns
returns c =
    let d = c.args.self.now in
    let row : Row = c.index-rows-place.result in
    let at : row ≡ get_or d.rows c.args.place row = subst (λ (rs : List Row). row ≡ get_or rs c.args.place row) c.rows-rows.ensures c.index-rows-place.is in
    ap (λ (xs : List ℕ). get_or xs c.args.value 0) c.classes.ensures.value
    ∙ placed_class d.task d.is_task d.rows d.fit d.increasing (variables d.rows) refl (digits_from (class_counts d.rows (ranges d.task)) 1 (variables d.rows)) refl
    c.args.place (get_or (variables d.rows) c.args.place 0) (c.requires.place, refl) row at c.args.value
