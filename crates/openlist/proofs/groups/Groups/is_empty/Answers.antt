use Rattle.std.proofs.Common.{◌≡◌, arith, length, sym, ◌∙◌}
use Rattle.std.proofs.lemmas.Bool.{eq-eqb}
use Rattle.openlist.proofs.GroupLists.{no_entries, no_groups}
use Rattle.openlist.proofs.groups.Groups.is_empty.Goals as goal

pub returns : goal.returns
returns c =
    rw (← c.self.view_is) (
      λ yes. no_entries c.self.inside.groups.items _ (omega arith) (sym c.is_empty.ensures ∙ yes),
      λ none.
          let none_long : length c.self.inside.groups.items ≡ 0 =
          no_groups c.self.inside.groups.items c.self.invariant.0 none in
          c.is_empty.ensures ∙ eq-eqb _ 0 (omega arith),
    )
