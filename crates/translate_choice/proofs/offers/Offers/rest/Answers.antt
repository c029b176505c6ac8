use Rattle.std.proofs.Common.{◌∙◌, ap, sym, subst}
use Rattle.std.proofs.lemmas.Result.{IfOk-weaker}
use Rattle.translate_choice.specs.Choices.{IsRest}
use Rattle.translate_choice.specs.Greedy.{left_of}
use Rattle.translate_choice.proofs.ChoiceLaws.{rest_of}
use Rattle.translate_choice.proofs.offers.Offers.rest.Goals as goal

pub returns-clause-rest : goal.returns-clause-rest
returns-clause-rest c =
    let index = c.args.self.now.index.now in
    let taken = c.args.taken.now in
    IfOk-weaker c.untaken.result _ _
    (λ rest e. subst (IsRest index taken) (sym (e ∙ ap (left_of taken) c.places_of.ensures))
    (rest_of index c.args.self.now.groups.now taken c.args.group c.args.self.now.proposed))
    c.untaken.ensures
