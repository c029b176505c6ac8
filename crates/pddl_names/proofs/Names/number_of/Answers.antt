use Rattle.std.proofs.Common.{◌∙◌, unwrap_or}
use Rattle.pddl_names.proofs.NameLists.{unwrap_or-place_of}
use Rattle.pddl_names.proofs.Names.number_of.Goals as goal

pub returns-clause-number : goal.returns-clause-number
returns-clause-number c =
    c.unwrap_or.ensures ∙ (λ i. unwrap_or (c.place_of.ensures.place i) (c.len.ensures i))
    ∙ unwrap_or-place_of c.args.self.now c.args.name.now
