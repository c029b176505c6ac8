use Rattle.std.proofs.Common.{◌∙◌}
use Rattle.translate.proofs.Promises.{chosen_parts_are, if_ok_by_three}
use Rattle.translate.proofs.translating.chosen.Goals as goal

pub returns-clause-chosen : goal.returns-clause-chosen
returns-clause-chosen c =
    if_ok_by_three _ _ _ _ c.choose_variables.result
    (λ vs chosen fit ordered.
    chosen_parts_are c.args.task.now c.args.grounded.now.atoms c.deref.result.now c.in_ok-index.index c.in_ok-groups.groups vs.items c.requires.least
    c.requires.ascending (c.deref.ensures.value ∙ c.requires.actions) c.in_ok-index.ensures c.in_ok-groups.ensures.groups chosen fit ordered)
    c.choose_variables.ensures.chosen c.choose_variables.ensures.fit c.choose_variables.ensures.ordered
