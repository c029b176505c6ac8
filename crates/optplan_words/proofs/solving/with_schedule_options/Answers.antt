use Rattle.std.proofs.Common.{[], ◌∷◌, codes}
use Rattle.std.proofs.lemmas.Result.{IfOk-weaker}
use Rattle.clap.specs.Words.{rule_of}
use Rattle.optplan_words.specs.Commands as spec
use Rattle.optplan_words.specs.Commands.{AddsRules}
use Rattle.optplan_words.proofs.Adding.{adds_arg, adds_one_more}
use Rattle.optplan_words.proofs.solving.with_schedule_options.Goals as goal

pub returns : goal.returns
returns c =
    let s0 = adds_arg c.args.command c.in_ok-command.command (spec.option (codes "simulate")) c.option-simulate.result c.option-simulate.ensures c.in_ok-command.ensures in
    let s1 = adds_one_more c.args.command c.in_ok-command.command c.in_ok-command-2.command (spec.option (codes "simulate") ∷ []) (spec.option_or (codes "workers") (codes "4")) c.option_or-workers.result s0 c.option_or-workers.ensures c.in_ok-command-2.ensures in
    IfOk-weaker c.with_arg-3.result (AddsRules c.in_ok-command-2.command (rule_of c.option_or-ring.result ∷ [])) (AddsRules c.args.command spec.schedule_options)
    (λ d h. adds_one_more c.args.command c.in_ok-command-2.command d (spec.option (codes "simulate") ∷ spec.option_or (codes "workers") (codes "4") ∷ []) (spec.option_or (codes "ring") (codes "64")) c.option_or-ring.result s1 c.option_or-ring.ensures h) c.with_arg-3.ensures
