use Rattle.std.proofs.Common.{[], ◌∷◌, codes}
use Rattle.std.proofs.lemmas.Result.{IfOk-weaker}
use Rattle.clap.specs.Words.{rule_of}
use Rattle.optplan_words.specs.Commands as spec
use Rattle.optplan_words.specs.Commands.{AddsRules}
use Rattle.optplan_words.proofs.Adding.{adds_arg, adds_one_more}
use Rattle.optplan_words.proofs.solving.with_output_options.Goals as goal

pub returns : goal.returns
returns c =
    let s0 = adds_arg c.args.command c.in_ok-command.command (spec.flag (codes "progress")) c.flag-progress.result c.flag-progress.ensures c.in_ok-command.ensures in
    let s1 = adds_one_more c.args.command c.in_ok-command.command c.in_ok-command-2.command (spec.flag (codes "progress") ∷ []) (spec.option (codes "plan")) c.option-plan.result s0 c.option-plan.ensures c.in_ok-command-2.ensures in
    let s2 = adds_one_more c.args.command c.in_ok-command-2.command c.in_ok-command-3.command (spec.flag (codes "progress") ∷ spec.option (codes "plan") ∷ []) (spec.option (codes "cert")) c.option-cert.result s1 c.option-cert.ensures c.in_ok-command-3.ensures in
    IfOk-weaker c.with_arg-4.result (AddsRules c.in_ok-command-3.command (rule_of c.explain.result ∷ [])) (AddsRules c.args.command spec.output_options)
    (λ d h. adds_one_more c.args.command c.in_ok-command-3.command d (spec.flag (codes "progress") ∷ spec.option (codes "plan") ∷ spec.option (codes "cert") ∷ []) spec.explain c.explain.result s2 c.explain.ensures h) c.with_arg-4.ensures
