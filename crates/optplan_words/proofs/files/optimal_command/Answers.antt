use Rattle.std.proofs.Common.{[], ◌∷◌, codes, rules}
use Rattle.std.proofs.lemmas.Result.{IfOk-weaker}
use Rattle.clap.specs.Words.{rule_of}
use Rattle.optplan_words.specs.Commands as spec
use Rattle.optplan_words.specs.Commands.{AddsRules, IsCommand}
use Rattle.optplan_words.proofs.Adding.{adds_arg, adds_one_more, adds_to_bare}
use Rattle.optplan_words.proofs.files.optimal_command.Goals as goal

pub returns : goal.returns
returns c =
    let a = c.long_about-command.result in
    let bare : IsCommand (spec.command (codes "optimal") []) a = search rules in
    let s0 = adds_arg a c.in_ok-command.command (spec.operand (codes "DOMAIN")) c.file.result c.file.ensures c.in_ok-command.ensures in
    let s1 = adds_one_more a c.in_ok-command.command c.in_ok-command-2.command (spec.operand (codes "DOMAIN") ∷ []) (spec.operand (codes "PROBLEM")) c.file-2.result s0 c.file-2.ensures c.in_ok-command-2.ensures in
    let s2 = adds_one_more a c.in_ok-command-2.command c.in_ok-command-3.command (spec.operand (codes "DOMAIN") ∷ spec.operand (codes "PROBLEM") ∷ []) (spec.operand (codes "PLAN")) c.file-3.result s1 c.file-3.ensures c.in_ok-command-3.ensures in
    let s3 = adds_one_more a c.in_ok-command-3.command c.in_ok-command-4.command (spec.operand (codes "DOMAIN") ∷ spec.operand (codes "PROBLEM") ∷ spec.operand (codes "PLAN") ∷ []) (spec.operand (codes "CERT")) c.file-4.result s2 c.file-4.ensures c.in_ok-command-4.ensures in
    let files = spec.operand (codes "DOMAIN") ∷ spec.operand (codes "PROBLEM") ∷ spec.operand (codes "PLAN") ∷ spec.operand (codes "CERT") ∷ [] in
    IfOk-weaker c.with_arg-5.result (AddsRules c.in_ok-command-4.command (rule_of c.explain.result ∷ [])) (IsCommand spec.optimal)
    (λ d h. adds_to_bare a d (codes "optimal") (spec.operand (codes "DOMAIN") ∷ spec.operand (codes "PROBLEM") ∷ spec.operand (codes "PLAN") ∷ spec.operand (codes "CERT") ∷ spec.explain ∷ []) bare
    (adds_one_more a c.in_ok-command-4.command d files spec.explain c.explain.result s3 c.explain.ensures h)) c.with_arg-5.ensures
