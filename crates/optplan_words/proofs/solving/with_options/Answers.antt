use Rattle.std.proofs.Common.{◌++◌}
use Rattle.std.proofs.lemmas.Result.{IfOk-weaker}
use Rattle.optplan_words.specs.Commands as spec
use Rattle.optplan_words.specs.Commands.{AddsRules}
use Rattle.optplan_words.proofs.Adding.{adds_more}
use Rattle.optplan_words.proofs.solving.with_options.Goals as goal

pub returns : goal.returns
returns c =
    let a = c.args.command in let b = c.in_ok-command.command in let d = c.in_ok-command-2.command in let e = c.in_ok-command-3.command in
    let two = adds_more a b d spec.schedule_options spec.search_options c.in_ok-command.ensures c.in_ok-command-2.ensures in
    let three = adds_more a d e (spec.schedule_options ++ spec.search_options) spec.ending_options two c.in_ok-command-3.ensures in
    IfOk-weaker c.with_output_options.result (AddsRules e spec.output_options) (AddsRules a spec.options)
    (λ f h. adds_more a e f ((spec.schedule_options ++ spec.search_options) ++ spec.ending_options) spec.output_options three h) c.with_output_options.ensures
