use Rattle.std.proofs.Common.{◌∙◌, ℕ, sym, ap, subst}
use Rattle.keyed_lists.specs.Lists.{lists_by}
use Rattle.abstraction_groups.specs.Lists.{AreLists}
use Rattle.abstraction_groups.proofs.ListLaws.{lists_told}
use Rattle.abstraction_listed.specs.Affecting.{single_classes}
use Rattle.abstraction_listed.proofs.listed.Listed.new.Goals as goal

pub invariant_of-result : goal.invariant_of-result
invariant_of-result g c =
    let task = g.A.Abstraction.task c.args.abstraction.now in
    let a = g.A.Abstraction.abstraction c.args.abstraction.now in
    let classes = single_classes task a in (
      c.in_ok-operators.ensures,
      subst (AreLists a classes)
          (sym (c.in_ok-lists.ensures ∙ ap (λ (n : ℕ). lists_by n c.deref-2.result.now) c.size.ensures.value ∙ ap (lists_by a.size) c.deref-2.ensures.value))
          (lists_told a classes c.in_ok-entries.entries.items c.in_ok-entries.ensures),
    )
