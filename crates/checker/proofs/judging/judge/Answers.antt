use Rattle.std.proofs.Common.{◌∙◌}
use Rattle.checker.specs.Judgements.{judged_of}
use Rattle.checker.proofs.Verdicts.{listed_placed, translation_verdict, translation_bound}
use Rattle.checker.proofs.judging.judge.Goals as goal

pub with_variables-requires-clause-placed : goal.with_variables-requires-clause-placed
with_variables-requires-clause-placed g c =
    listed_placed (judged_of c.args.task.now c.args.parts.now) c.deref.result.now c.in_ok-listed.listed.variables.items c.requires.lawful
    (c.deref.ensures.value ∙ c.in_ok-listed.ensures.atoms) c.in_ok-listed.ensures.variables

pub returns-in-Ok-clause-verdict : goal.returns-in-Ok-clause-verdict
returns-in-Ok-clause-verdict g c =
    translation_verdict (judged_of c.args.task.now c.args.parts.now) c.args.certificate.now c.in_ok-verdict-in-Ok.verdict c.in-Ok.translated c.task.result.now
    c.in-Ok.ensures.translation (c.in-Ok.ensures.atoms ∙ c.deref.ensures.value ∙ c.in_ok-listed.ensures.atoms) (c.in-Ok.ensures.variables ∙ c.in_ok-listed.ensures.variables)
    c.task.ensures c.in_ok-verdict-in-Ok.ensures.verdict

pub returns-in-Ok-clause-bound : goal.returns-in-Ok-clause-bound
returns-in-Ok-clause-bound g c = λ bound well accepted.
    translation_bound c.args.task.now c.in-Ok.translated c.task.result.now bound (c.in-Ok.ensures.plans well) c.task.ensures
    (c.in_ok-verdict-in-Ok.ensures.bound bound accepted)
