use Rattle.std.proofs.Common.{◌≡◌, [], codes}
use Rattle.std.proofs.lemmas.Result.{IfOk-weaker}
use Rattle.clap.specs.Words.{App, AddsSubcommand, app_of, with_subcommand}
use Rattle.optplan_words.specs.Commands as spec
use Rattle.optplan_words.specs.Commands.{program}
use Rattle.optplan_words.proofs.Adding.{IsApp, adds_command}
use Rattle.optplan_words.proofs.program.program_command.Goals as goal

pub returns : goal.returns
returns c =
    let a0 : App = record { top = spec.bare_program; subs = [] } in
    let s0 : IsApp a0 c.bare_program-program.result = record { is = c.bare_program-program.ensures.0; locals = c.bare_program-program.ensures.1 } in
    let a1 = with_subcommand a0 spec.validate in
    let s1 = adds_command c.bare_program-program.result c.in_ok-program.program c.in_ok-validate_command.field-0 a0 spec.validate s0 c.in_ok-validate_command.ensures c.in_ok-program.ensures in
    let a2 = with_subcommand a1 spec.check_sas in
    let s2 = adds_command c.in_ok-program.program c.in_ok-program-2.program c.in_ok-check_sas_command.field-0 a1 spec.check_sas s1 c.in_ok-check_sas_command.ensures c.in_ok-program-2.ensures in
    let a3 = with_subcommand a2 spec.check in
    let s3 = adds_command c.in_ok-program-2.program c.in_ok-program-3.program c.in_ok-check_command.field-0 a2 spec.check s2 c.in_ok-check_command.ensures c.in_ok-program-3.ensures in
    let a4 = with_subcommand a3 spec.optimal in
    let s4 = adds_command c.in_ok-program-3.program c.in_ok-program-4.program c.in_ok-optimal_command.field-0 a3 spec.optimal s3 c.in_ok-optimal_command.ensures c.in_ok-program-4.ensures in
    let a5 = with_subcommand a4 spec.translate in
    let s5 = adds_command c.in_ok-program-4.program c.in_ok-program-5.program c.in_ok-translate_command.field-0 a4 spec.translate s4 c.in_ok-translate_command.ensures c.in_ok-program-5.ensures in
    let a6 = with_subcommand a5 (spec.solve (codes "solve")) in
    let s6 = adds_command c.in_ok-program-5.program c.in_ok-program-6.program c.in_ok-solve_command.field-0 a5 (spec.solve (codes "solve")) s5 c.in_ok-solve_command.ensures c.in_ok-program-6.ensures in
    let a7 = with_subcommand a6 (spec.solve_sas (codes "solve-sas")) in
    let s7 = adds_command c.in_ok-program-6.program c.in_ok-program-7.program c.in_ok-solve_sas_command.field-0 a6 (spec.solve_sas (codes "solve-sas")) s6 c.in_ok-solve_sas_command.ensures c.in_ok-program-7.ensures in
    IfOk-weaker c.subcommand-8.result (AddsSubcommand c.in_ok-program-7.program c.in_ok-migrate_cert_command.field-0) (λ d. app_of d ≡ program)
    (λ d h. (adds_command c.in_ok-program-7.program d c.in_ok-migrate_cert_command.field-0 a7 spec.migrate_cert s7 c.in_ok-migrate_cert_command.ensures h).is) c.subcommand-8.ensures
