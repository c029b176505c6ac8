use Rattle.std.proofs.Common.{[], ◌∷◌, codes}
use Rattle.std.proofs.lemmas.Result.{IfOk-weaker}
use Rattle.clap.specs.Words.{rule_of}
use Rattle.optplan_words.specs.Commands as spec
use Rattle.optplan_words.specs.Commands.{AddsRules}
use Rattle.optplan_words.proofs.Adding.{adds_arg, adds_one_more}
use Rattle.optplan_words.proofs.solving.with_ending_options.Goals as goal

pub returns : goal.returns
returns c =
    let s0 = adds_arg c.args.command c.in_ok-command.command (spec.option (codes "limit")) c.option-limit.result c.option-limit.ensures c.in_ok-command.ensures in
    let s1 = adds_one_more c.args.command c.in_ok-command.command c.in_ok-command-2.command (spec.option (codes "limit") ∷ []) (spec.option (codes "time")) c.option-time.result s0 c.option-time.ensures c.in_ok-command-2.ensures in
    let s2 = adds_one_more c.args.command c.in_ok-command-2.command c.in_ok-command-3.command (spec.option (codes "limit") ∷ spec.option (codes "time") ∷ []) (spec.option (codes "memory")) c.option-memory.result s1 c.option-memory.ensures c.in_ok-command-3.ensures in
    IfOk-weaker c.with_arg-4.result (AddsRules c.in_ok-command-3.command (rule_of c.option_or-steps.result ∷ [])) (AddsRules c.args.command spec.ending_options)
    (λ d h. adds_one_more c.args.command c.in_ok-command-3.command d (spec.option (codes "limit") ∷ spec.option (codes "time") ∷ spec.option (codes "memory") ∷ []) (spec.option_or (codes "steps") (codes "1000000")) c.option_or-steps.result s2 c.option_or-steps.ensures h) c.with_arg-4.ensures
