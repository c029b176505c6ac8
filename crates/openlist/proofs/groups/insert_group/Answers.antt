use Rattle.std.proofs.Common.{◌≡◌, [], ◌∷◌, ◌++◌, ap, sym, ◌∙◌}
use Rattle.openlist.proofs.GroupLists.{AreGroups-inserted, grouped-inserted}
use Rattle.openlist.proofs.groups.insert_group.Goals as goal

pub returns-clause-groups : goal.returns-clause-groups
returns-clause-groups c =
    let one : c.new-2.result.lowers ≡ c.args.lower ∷ [] =
    c.new-2.ensures.lowers ∙ ap (λ q. q.items) c.replace-lowers.ensures.value ∙ c.in-Ok.ensures.items
    ∙ ap (λ v. v ++ c.args.lower ∷ []) c.requires.kept in
    AreGroups-inserted _ c.args.groups.now.items _ c.args.place c.args.key c.args.lower c.new-2.result
    c.insert.ensures.items c.new-2.ensures.key one c.requires.before c.requires.after c.requires.groups

pub returns-clause-pushed : goal.returns-clause-pushed
returns-clause-pushed c = λ yes.
    let one : c.new-2.result.lowers ≡ c.args.lower ∷ [] =
    c.new-2.ensures.lowers ∙ ap (λ q. q.items) c.replace-lowers.ensures.value ∙ c.in-Ok.ensures.items
    ∙ ap (λ v. v ++ c.args.lower ∷ []) c.requires.kept in
    grouped-inserted _ c.args.groups.now.items _ c.args.place c.args.key c.args.lower c.new-2.result
    c.insert.ensures.items c.new-2.ensures.key one (sym c.is_ok.ensures.value ∙ yes)
