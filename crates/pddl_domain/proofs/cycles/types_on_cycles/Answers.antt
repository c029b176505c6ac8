use Rattle.std.proofs.Common.{length, refl, ◌∙◌}
use Rattle.std.proofs.lemmas.Result.{IfOk-weaker}
use Rattle.pddl_domain.proofs.Ancestors.{ends_within, marks_are}
use Rattle.pddl_domain.proofs.cycles.types_on_cycles.Goals as goal

pub marked-requires : goal.marked-requires
marked-requires c =
    let f = c.args.supertypes.now in let far = c.in_ok-far.ensures in
    ends_within f c.requires far.0 c.deref.result.now (length f) (c.deref.ensures.value ∙ far.2) refl

pub returns : goal.returns
returns c =
    let f = c.args.supertypes.now in let far = c.in_ok-far.ensures in
    IfOk-weaker c.marked.result _ _ (λ marks e. e ∙ marks_are f c.requires far.0 far.1 c.deref.result.now (c.deref.ensures.value ∙ far.2)) c.marked.ensures
