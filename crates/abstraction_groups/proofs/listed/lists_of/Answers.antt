use Rattle.std.proofs.Common.{◌≡◌, ℕ, sym, ap, ◌∙◌, subst}
use Rattle.keyed_lists.specs.Lists.{lists_by}
use Rattle.abstraction_groups.specs.Factors.{groups_of}
use Rattle.abstraction_groups.specs.Lists.{AreLists}
use Rattle.abstraction_groups.proofs.ListLaws.{lists_told}
use Rattle.abstraction_groups.proofs.listed.lists_of.Goals as goal

pub returns : goal.returns
returns g c =
    let a = g.A.Abstraction.abstraction c.args.groups.now in
    let classes = groups_of (g.A.Abstraction.task c.args.groups.now) (g.A.FactoredAbstraction.factors c.args.groups.now) in
    let size : c.size-size.result ≡ a.size = c.size-size.ensures.value ∙ ap (λ x. (g.A.Abstraction.abstraction x).size) c.abstraction.ensures in
    subst (AreLists a classes)
    (sym (c.in_ok-lists.ensures ∙ ap (λ (n : ℕ). lists_by n c.deref.result.now) size ∙ ap (lists_by a.size) c.deref.ensures.value))
    (lists_told a classes c.in_ok-entries.entries.items c.in_ok-entries.ensures)
